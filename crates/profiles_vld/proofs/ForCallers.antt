-- The facts about the definitions that the crates above cite.
use Rattle.std.proofs.Common.{◌≡◌, ℕ, false, refl, sym, ap}
use Rattle.std.proofs.lemmas.Bool.{ne_eqb}
use Rattle.erp1_telegrams.specs.Telegram.{Telegram}
use Rattle.erp1_telegrams.specs.declared.eep.Eep.{Eep}
use Rattle.profiles_vld.specs.Profiles.{vld_profile, supported, readings_of}

-- no profile of another RORG is supported
pub not-supported : (eep : Eep) → (eep.rorg ≡ 0xD2 → ⊥) → false ≡ supported eep
not-supported eep other = rw (ne_eqb eep.rorg 0xD2 other) refl

-- a profile of the RORG D2 is that of its FUNC and TYPE
pub by-vld-supported : (eep : Eep) → eep.rorg ≡ 0xD2 → supported (vld_profile eep.func eep.typ) ≡ supported eep
by-vld-supported eep kind =
    ap (λ (rorg : ℕ). supported (record { rorg = rorg; func = eep.func; typ = eep.typ })) (sym kind)

pub by-vld : (eep : Eep) (t : Telegram) → eep.rorg ≡ 0xD2
    → readings_of (vld_profile eep.func eep.typ) t ≡ readings_of eep t
by-vld eep t kind =
    ap (λ (rorg : ℕ). readings_of (record { rorg = rorg; func = eep.func; typ = eep.typ }) t) (sym kind)
