-- Profiles and their rows (EnOcean Equipment Profiles 2.6, "EEP structure": RORG, FUNC, TYPE).
use Rattle.std.specs.Prelude.{ℕ, Bool, List, ◌==◌, ◌&&◌, Option, option_map}
use Rattle.std.specs.List.{find, list_any}
use Rattle.erp1_telegrams.specs.declared.eep.Eep.{Eep}
use Rattle.profile_rows.specs.Rows.{Row}

-- profiles with the same rows: these types of one RORG and FUNC
pub record ProfileGroup : Type 0 where
  pub rorg : ℕ
  pub func : ℕ
  pub types : List ℕ
  pub rows : List Row

-- the profile has this RORG and FUNC, and one of these types
abbrev pub is_one_of : (rorg func : ℕ) (types : List ℕ) → Eep → Bool
is_one_of rorg func types eep = eep.rorg == rorg && eep.func == func && list_any (λ typ. eep.typ == typ) types

-- the rows of a profile, if a table has it
abbrev pub rows_in : List ProfileGroup → Eep → Option (List Row)
rows_in table eep = option_map (λ ps. ps.rows) (find (λ ps. is_one_of ps.rorg ps.func ps.types eep) table)
