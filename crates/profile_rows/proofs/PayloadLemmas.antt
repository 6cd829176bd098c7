-- The data of a telegram whose contents are known.
use Rattle.std.proofs.Common.{◌≡◌, ℕ, true, false, List, length, Ok, Err, refl, sym, ap, ◌∙◌}
use Rattle.std.proofs.lemmas.Bool.{eq-eqb, ne_eqb}
use Rattle.erp1_telegrams.specs.Telegram.{Telegram}
use Rattle.erp1_telegrams.specs.Contents.{rorg_in, payload_in}
use Rattle.erp1_telegrams.specs.declared.contents.Contents.{Contents}
use Rattle.profile_rows.specs.Payload.{is_data, checked_data_payload}
use Rattle.profile_rows.specs.declared.unreadable.Unreadable.TheVariants as unreadable

module _ (t : Telegram) (held : Contents) (rorg : rorg_in held ≡ t.rorg) (payload : payload_in held ≡ t.payload) where
  module _ (shown : Contents) (is : held ≡ shown) (n : ℕ) (len : length (payload_in shown) ≡ n) where
    same-rorg : t.rorg ≡ rorg_in shown
    same-rorg = sym rorg ∙ ap rorg_in is

    same-payload : t.payload ≡ payload_in shown
    same-payload = sym payload ∙ ap payload_in is

    -- contents of the RORG that are data
    pub of-data : (r : ℕ) → r ≡ rorg_in shown → is_data r (payload_in shown) ≡ true
        → Ok (payload_in shown) ≡ checked_data_payload r n t
    of-data r kind holds =
        rw (
          eq-eqb t.rorg r (same-rorg ∙ sym kind),
          eq-eqb (length t.payload) n (ap length same-payload ∙ len),
          ap (is_data r) same-payload ∙ holds,
        )
        (ap (λ (y : List ℕ). Ok y) (sym same-payload))

    -- and those that are not
    pub of-teach-in : (r : ℕ) → r ≡ rorg_in shown → is_data r (payload_in shown) ≡ false
        → Err unreadable.OtherMessage ≡ checked_data_payload r n t
    of-teach-in r kind holds =
        rw (
          eq-eqb t.rorg r (same-rorg ∙ sym kind),
          eq-eqb (length t.payload) n (ap length same-payload ∙ len),
          ap (is_data r) same-payload ∙ holds,
        )
        refl

  -- contents of another RORG
  pub of-other : (r n : ℕ) → (rorg_in held ≡ r → ⊥) → Err unreadable.WrongKind ≡ checked_data_payload r n t
  of-other r n other = rw (ne_eqb t.rorg r (λ e. other (rorg ∙ e))) refl
