-- A text that means a command.
use Rattle.std.proofs.Common.{◌≡◌, ℕ, List, [], false, Ok}
use Rattle.sqlite.specs.Schema.{Schema}
use Rattle.sqlite.specs.Listing.{understood, reads_listing}
use Rattle.sqlite_schema.specs.declared.command.Command.{Command}
use Rattle.sqlite_ast.specs.declared.Statement.{Statement}
use Rattle.sqlite_syntax.specs.declared.statement.Parsed.{Parsed}
use Rattle.sqlite_resolve.specs.Compile.{first}
use Rattle.sqlite.proofs.Callers.{IsPlain, command_of}

-- the text is this statement, which does not read the time
pub record ParsesAs (text : List ℕ) (statement : Statement) : Type 0 where
  pub parsed : Parsed
  pub read : first text ≡ Ok parsed
  pub is : parsed.statement ≡ statement
  pub needs_no_time : parsed.formats ≡ []

-- the meaning of the text under the schema: a statement of one command, without RETURNING and time
pub record CompilesTo (schema : Schema) (text : List ℕ) (c : Command) : Type 0 where
  pub is : command_of (understood schema text) ≡ c
  pub is_plain : IsPlain (understood schema text)
  pub reads_no_listing : reads_listing schema text ≡ false
