-- Re-exports the definitions, and the lemmas of the kit, that several proofs cite. Declares nothing.
pub use Rattle.keyed_table.specs.KeyedMap.{AreMap, Codec, HoldsMap, IsCodec, SqlTextsCompile, table_of}
pub use Rattle.keyed_table.specs.Lone.{IsLone}
pub use Rattle.keyed_table.specs.Meaning.{CompilesTo, ParsesAs}
pub use Rattle.keyed_table.specs.Queries.{all_query, count_others_query, find_query, lookup_params, plain_query}
pub use Rattle.keyed_table.specs.Queries.{program_of, rows_query}
pub use Rattle.keyed_table.specs.Rows.{AreKeyed, HasKey, are_tied, map_of}
pub use Rattle.keyed_table.specs.Stores.{HoldsIn}
pub use Rattle.keyed_table.specs.Tables.{AdmitsTable, HasNoReferenceTo, TreeHasName}
pub use Rattle.keyed_table.specs.Transactions.{HasRunStatements}
pub use Rattle.sqlite.proofs.Callers.{IsPlain, command_of, never_commits, runs_as, statement_of, unchanged_then}
pub use Rattle.sqlite.proofs.InsideLemmas.{unchanged_keeps}
pub use Rattle.sqlite.proofs.StateLemmas.{survives_then, survives_weaker}
pub use Rattle.sqlite.specs.Collation.{Collation}
pub use Rattle.sqlite.specs.Collation.TheVariants.{Binary}
pub use Rattle.sqlite.specs.Command.TheVariants.{Delete, DropTable, Insert, Select, Update}
pub use Rattle.sqlite.specs.Compile.{table_defined_by}
pub use Rattle.sqlite.specs.Does.{Does, Tally, lacks_sequence}
pub use Rattle.sqlite.specs.Effect.{Database, IsDatabase}
pub use Rattle.sqlite.specs.Held.{Held, state}
pub use Rattle.sqlite.specs.Listing.{understood}
pub use Rattle.sqlite.specs.Order.{Row, column}
pub use Rattle.sqlite.specs.Program.{overlay}
pub use Rattle.sqlite.specs.Query.{IsAnswer, Query}
pub use Rattle.sqlite.specs.Schema.{Schema}
pub use Rattle.sqlite.specs.Source.TheVariants.{Values}
pub use Rattle.sqlite.specs.State.{Executes, HasCleanDisk, IsUnchanged, Shown, State, Survives, mode_of}
pub use Rattle.sqlite.specs.Steps.{FailsToCommit}
pub use Rattle.sqlite.specs.Table.{Table}
pub use Rattle.sqlite.specs.Term.{Term, col, lit}
pub use Rattle.sqlite.specs.declared.error.Error.{Error}
pub use Rattle.sqlite.specs.declared.run.Mode.{Mode}
pub use Rattle.sqlite.specs.declared.types.Value.{Value}
pub use Rattle.sqlite.specs.declared.types.Value.TheVariants.{Int, Null, Text}
pub use Rattle.sqlite_ast.specs.declared.Binary.TheVariants.{Eq, Ne}
pub use Rattle.sqlite_ast.specs.declared.Conflict.TheVariants.{Abort}
pub use Rattle.sqlite_ast.specs.declared.Expr.{Expr}
pub use Rattle.sqlite_ast.specs.declared.Expr.TheVariants.{CallStar}
pub use Rattle.sqlite_ast.specs.declared.Shown.TheVariants.{One}
pub use Rattle.sqlite_catalog.proofs.LayoutLemmas.{same_rowid, zipped_left}
pub use Rattle.sqlite_catalog.proofs.StepLemmas.{same_itself}
pub use Rattle.sqlite_catalog.specs.Change.{is_used, next_tree}
pub use Rattle.sqlite_catalog.specs.Listing.{IsIndexRow, IsSound, IsTableRow}
pub use Rattle.sqlite_draft.specs.declared.query.Draft.{Draft}
pub use Rattle.sqlite_keyed.proofs.ListLemmas.{any_from_none, none_from_any}
pub use Rattle.sqlite_rules.proofs.ListLemmas.{all_from, all_has, has_filtered, has_got, has_kept, has_left, has_right}
pub use Rattle.sqlite_rules.proofs.ListLemmas.{some_from}
pub use Rattle.sqlite_rules.specs.Calls.{ids_of}
pub use Rattle.sqlite_rules.specs.Cast.{cast_row}
pub use Rattle.sqlite_rules.specs.Edit.{edit_of, edited, without_all}
pub use Rattle.sqlite_rules.specs.Lists.{Has}
pub use Rattle.sqlite_rules.specs.declared.error.Rowids.TheVariants.{Chosen, Given}
pub use Rattle.sqlite_schema.specs.Names.{same_name, table_named, view_named}
pub use Rattle.sqlite_schema.specs.Rules.{passes_checks}
pub use Rattle.sqlite_schema.specs.declared.command.Command.{Command}
pub use Rattle.sqlite_schema.specs.declared.schema.Index.{Index}
pub use Rattle.sqlite_schema.specs.declared.schema.Keys.{Keys}
pub use Rattle.sqlite_sql.specs.Aggregate.{count}
pub use Rattle.sqlite_sql.specs.Ops.{from_truth}
pub use Rattle.sqlite_sql.specs.Term.{eval_all}
pub use Rattle.sqlite_sql.specs.declared.ops.BinaryOp.TheVariants.{Compare}
pub use Rattle.sqlite_trees.proofs.ListLemmas.{all-filter, all-permutation, all_both, all_weaker, ascending-map}
pub use Rattle.sqlite_trees.proofs.ListLemmas.{map-map}
pub use Rattle.sqlite_trees.specs.Objects.{catalog_tree}
pub use Rattle.sqlite_trees.specs.Tree.{IsTable, Trees, put_row, rowid}
pub use Rattle.sqlite_trees.specs.declared.store.Store.{Ghosts}
pub use Rattle.sqlite_typing.specs.Types.{row_classes}
pub use Rattle.sqlite_value.proofs.OrderLemmas.{value_cmp-Int}
pub use Rattle.sqlite_value.specs.Order.{value_cmp}
pub use Rattle.std.proofs.Common.{Bool, Contains, Err, IfErr, IfOk, IsPermutation, IsTrue, List, MatchBool, None, Ok}
pub use Rattle.std.proofs.Common.{OnErr, OnOk, Option, Result, Some, [], ap, append-nil, arith, codes, drop, eqb}
pub use Rattle.std.proofs.Common.{eqb-true, false, filter, if◌then◌else◌, inl, inr, is_eq, is_some, length, map}
pub use Rattle.std.proofs.Common.{nat_cmp, nat_le, negsuc, not, option_map, pos, refl, rules, slice_get, subst, sym}
pub use Rattle.std.proofs.Common.{take, true, unwrap_or, ℕ, ℤ, ◌&&◌, ◌++◌, ◌+◌, ◌<◌, ◌==◌, ◌^◌, ◌∙◌, ◌∷◌, ◌≡◌, ◌≢◌}
pub use Rattle.std.proofs.Common.{◌≤ℤ◌, ◌≤◌, ◌⊎◌}
pub use Rattle.std.proofs.lemmas.Bool.{and_left, and_parts, and_right, both_ways, cases_Bool, cond_both, eqb-false}
pub use Rattle.std.proofs.lemmas.Bool.{false_from_ne_true, ne_eqb, not-true, or_from}
pub use Rattle.std.proofs.lemmas.Bool.Decides.{nat_tests}
pub use Rattle.std.proofs.lemmas.Cmp.{nat_cmp_total}
pub use Rattle.std.proofs.lemmas.Int.{ints}
pub use Rattle.std.proofs.lemmas.List.{length-map}
pub use Rattle.std.proofs.lemmas.List.Sorted.{IsPermutation-map, IsPermutation-sym, IsPermutation-trans}
pub use Rattle.std.proofs.lemmas.List.Sorted.{length_permutation}
pub use Rattle.std.proofs.lemmas.Result.{IfOk-weaker, MatchResult-from_err, on_ok_weaker}
pub use Rattle.std.specs.FinMap.{FinMap, empty, entries, get, insert, len, remove}
pub use Rattle.std.specs.List.{AllByRecursion, AllZip, flat_map, list_any, position_from}
