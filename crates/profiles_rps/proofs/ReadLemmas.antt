-- The readings of a profile with rows, of one without, and of one of another RORG.
use Rattle.std.proofs.Common.{◌≡◌, ℕ, true, false, List, Ok, Err, None, refl, sym, ap, arith}
use Rattle.std.specs.Prelude.{Bool, Option, Some, is_some, option_map, ok_or}
use Rattle.std.proofs.lemmas.Bool.{ne_eqb}
use Rattle.std.proofs.lemmas.Bool.Decides.{nat_tests}
use Rattle.erp1_telegrams.specs.Contents.{rorg_in}
use Rattle.erp1_telegrams.specs.Telegram.{Telegram}
use Rattle.erp1_telegrams.specs.declared.contents.Contents.{Contents}
use Rattle.erp1_telegrams.specs.declared.contents.Contents.TheVariants.{OneBs}
use Rattle.erp1_telegrams.specs.declared.eep.Eep.{Eep}
use Rattle.profile_rows.specs.Payload.{readings_by}
use Rattle.profile_rows.specs.declared.unreadable.Unreadable.TheVariants as unreadable
use Rattle.profile_rows.specs.ReadResult.{entries_if}
use Rattle.profile_rows.specs.Reading.{Entry, entries}
use Rattle.profile_rows.specs.Rows.{Row, rows_entries}
use Rattle.profile_rows.specs.declared.reading.Reading.{Reading}
use Rattle.profiles_rps.specs.Profiles.{rps_profile, one_bs_profile, rows_of, supported, readings_of}

-- a profile is supported if it has rows
pub found-if-some : (found : Bool) (readings : List Reading) (reads : List Row → List Entry) (rows : Option (List Row))
    → entries_if found readings ≡ option_map reads rows → found ≡ is_some rows
found-if-some true readings reads (Some rows) e = refl
found-if-some false readings reads None e = refl
found-if-some found readings reads rows e = cc

module _ (readings : List Reading) (reads : List ℕ → List Row → List Entry) (bytes : List ℕ) where
  -- and then it reads what the rows read
  pub of-found : (rows : Option (List Row)) → entries_if true readings ≡ option_map (reads bytes) rows
      → Ok (entries readings) ≡ readings_by reads rows (Ok bytes)
  of-found (Some rows) e = ap (λ (o : Option (List Entry)). ok_or o unreadable.NotSupported) e
  of-found None e = cc

  pub of-not-found : (rows : Option (List Row)) → entries_if false readings ≡ option_map (reads bytes) rows
      → Err unreadable.NotSupported ≡ readings_by reads rows (Ok bytes)
  of-not-found (Some rows) e = cc
  of-not-found None e = refl

-- no profile of another RORG has rows
no-rows : (eep : Eep) → (eep.rorg ≡ 0xF6 → ⊥) → (eep.rorg ≡ 0xD5 → ⊥) → rows_of eep ≡ None
unfolding rows_of
no-rows eep rps one = rw (ne_eqb eep.rorg 0xF6 rps, ne_eqb eep.rorg 0xD5 one) refl

-- and it is not supported
pub not-supported : (eep : Eep) → (eep.rorg ≡ 0xF6 → ⊥) → (eep.rorg ≡ 0xD5 → ⊥) → false ≡ supported eep
not-supported eep rps one = rw (no-rows eep rps one) refl

-- a profile without rows reads nothing
pub of-no-rows : (eep : Eep) (t : Telegram) → (eep.rorg ≡ 0xF6 → ⊥) → (eep.rorg ≡ 0xD5 → ⊥)
    → Err unreadable.NotSupported ≡ readings_of eep t
of-no-rows eep t rps one = rw (no-rows eep rps one) refl

-- a profile of the RORG F6 or D5 is that of its FUNC and TYPE
pub by-rps-supported : (eep : Eep) → eep.rorg ≡ 0xF6 → supported (rps_profile eep.func eep.typ) ≡ supported eep
by-rps-supported eep kind = rw (← kind) refl

pub by-1bs-supported : (eep : Eep) → eep.rorg ≡ 0xD5 → supported (one_bs_profile eep.func eep.typ) ≡ supported eep
by-1bs-supported eep kind = rw (← kind) refl

pub by-rps : (eep : Eep) (t : Telegram) → eep.rorg ≡ 0xF6
    → readings_of (rps_profile eep.func eep.typ) t ≡ readings_of eep t
by-rps eep t kind =
    ap (λ (rorg : ℕ). readings_of (record { rorg = rorg; func = eep.func; typ = eep.typ }) t) (sym kind)

pub by-1bs : (eep : Eep) (t : Telegram) → eep.rorg ≡ 0xD5
    → readings_of (one_bs_profile eep.func eep.typ) t ≡ readings_of eep t
by-1bs eep t kind =
    ap (λ (rorg : ℕ). readings_of (record { rorg = rorg; func = eep.func; typ = eep.typ }) t) (sym kind)

-- only 1BS has the RORG D5
not-one : (held : Contents) → ((bytes : List ℕ) → held ≡ OneBs bytes → ⊥) → rorg_in held ≡ 0xD5 → ⊥
not-one (OneBs bytes) other e = other bytes refl
not-one held other e = omega (arith, e)

-- a telegram of another RORG than the profile
pub of-not-one : (eep : Eep) (t : Telegram) (held : Contents) → rorg_in held ≡ t.rorg → eep.rorg ≡ 0xD5
    → ((bytes : List ℕ) → held ≡ OneBs bytes → ⊥)
    → readings_by (rows_entries t.status) (rows_of eep) (Err unreadable.WrongKind) ≡ readings_of eep t
of-not-one eep t held rorg kind other = grind (arith, nat_tests, not-one)
