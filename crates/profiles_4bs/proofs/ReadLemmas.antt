-- Which profiles are supported, and that their readings depend only on the profile's RORG, FUNC and TYPE.
use Rattle.std.proofs.Common.{◌≡◌, ℕ, false, Err, None, refl, sym, ap}
use Rattle.std.proofs.lemmas.Bool.{ne_eqb}
use Rattle.erp1_telegrams.specs.Telegram.{Telegram}
use Rattle.erp1_telegrams.specs.declared.eep.Eep.{Eep}
use Rattle.profile_rows.specs.declared.unreadable.Unreadable.TheVariants as refusals
use Rattle.profiles_4bs.specs.Profiles.{four_bs_profile, rows_of, supported, readings_of}

-- no profile of another RORG has rows
no-rows : (eep : Eep) → (eep.rorg ≡ 0xA5 → ⊥) → rows_of eep ≡ None
unfolding rows_of
no-rows eep other = rw (ne_eqb eep.rorg 0xA5 other) refl

-- and it is not supported
pub not-supported : (eep : Eep) → (eep.rorg ≡ 0xA5 → ⊥) → false ≡ supported eep
not-supported eep other = rw (no-rows eep other) refl

-- a profile without rows reads nothing
pub of-no-rows : (eep : Eep) (t : Telegram) → (eep.rorg ≡ 0xA5 → ⊥) → Err refusals.NotSupported ≡ readings_of eep t
of-no-rows eep t other = rw (no-rows eep other) refl

-- a profile of the RORG A5 is that of its FUNC and TYPE
pub by-4bs-supported : (eep : Eep) → eep.rorg ≡ 0xA5 → supported (four_bs_profile eep.func eep.typ) ≡ supported eep
by-4bs-supported eep kind = rw (← kind) refl

pub by-4bs : (eep : Eep) (t : Telegram) → eep.rorg ≡ 0xA5
    → readings_of (four_bs_profile eep.func eep.typ) t ≡ readings_of eep t
by-4bs eep t kind =
    ap (λ (rorg : ℕ). readings_of (record { rorg = rorg; func = eep.func; typ = eep.typ }) t) (sym kind)
