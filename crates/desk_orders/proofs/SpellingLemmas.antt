-- The computed ID, profile, state, quantity and label of a text are those that the text spells.
use Rattle.std.proofs.Common.{◌≡◌, ℕ, Bool, true, List, [], ◌∷◌, length, refl, sym, ap, ◌∙◌, arith, Option, Some}
use Rattle.std.specs.Prelude.{Result, Ok, bytes_eq}
use Rattle.std.specs.Int.{w32, from_be_bytes}
use Rattle.std.proofs.lemmas.Bool.{and_parts, eqb-true}
use Rattle.std.proofs.lemmas.Slice.Eq.{bytes_eq-Decides}
use Rattle.hex.specs.Hex.{decode_of}
use Rattle.hex.specs.declared.error.FromHexError.{FromHexError}
use Rattle.hex.proofs.HexLemmas.{decode_of-ok, decode_sized-ok, decode_sized-twice}
use Rattle.erp1_telegrams.specs.declared.eep.Eep.{Eep}
use Rattle.desk_orders.specs.declared.orders.Quantity.{Quantity}
use Rattle.desk_orders.specs.Words.{SpellsId, SpellsEep, byte_of_decoded, byte_in, id_of_decoded, id_in, eep_of_bytes}
use Rattle.desk_orders.specs.Words.{eep_in, state_name, state_in, quantity_name, quantity_in, is_nonempty_label}
use Rattle.desk_orders.specs.Words.{label_if_well_formed}
use Rattle.desk_orders.proofs.NumberLemmas.{some_if}

-- ---- an ID

id_of_decoded-some : (r : Result (List ℕ) FromHexError) (id : ℕ) → id_of_decoded r ≡ Some id
    → (bytes : List ℕ) × (r ≡ Ok bytes) × (id ≡ from_be_bytes w32 bytes)
id_of_decoded-some r id e = grind arith

pub id_spelled : (digits : List ℕ) (id : ℕ) → id_in digits ≡ Some id → SpellsId digits id
id_spelled digits id e = grind (arith, id_of_decoded-some, decode_sized-ok, decode_sized-twice, decode_of-ok)

pub id_read : (digits : List ℕ) (id : ℕ) → SpellsId digits id → id_in digits ≡ Some id
id_read digits id (bytes, four, decoded, is) = grind (arith, decode_of-ok, decode_sized-twice)

-- ---- a profile

byte_of_decoded-some : (r : Result (List ℕ) FromHexError) (byte : ℕ) → byte_of_decoded r ≡ Some byte
    → r ≡ Ok (byte ∷ [])
byte_of_decoded-some r byte e = grind arith

byte_spelled : (a b byte : ℕ) → byte_in (a ∷ b ∷ []) ≡ Some byte → decode_of (a ∷ b ∷ []) ≡ Ok (byte ∷ [])
byte_spelled a b byte e = grind (arith, decode_sized-twice, byte_of_decoded-some)

pair : (digits : List ℕ) → length digits ≡ 2 → (a : ℕ) × (b : ℕ) × (digits ≡ a ∷ b ∷ [])
pair (a ∷ b ∷ []) e = (a, b, refl)
pair digits e = absurd (omega arith)

-- two digits that decode to a byte
byte_read : (digits : List ℕ) (byte : ℕ) → decode_of digits ≡ Ok (byte ∷ [])
    → (a : ℕ) × (b : ℕ) × (digits ≡ a ∷ b ∷ []) × (byte_in (a ∷ b ∷ []) ≡ Some byte)
byte_read digits byte e =
    let ok = decode_of-ok digits (byte ∷ []) e in
    let long : length digits ≡ 2 = omega (arith, ok.2) in
    let p = pair digits long in
    (p.0, p.1, p.2, ap byte_in (sym p.2) ∙ ap byte_of_decoded (decode_sized-twice digits 1 long ∙ e))

eep_of_bytes-some : (r f t : Option ℕ) (eep : Eep) → eep_of_bytes r f t ≡ Some eep
    → (r ≡ Some eep.rorg) × (f ≡ Some eep.func) × (t ≡ Some eep.typ)
eep_of_bytes-some r f t eep e = grind arith

pub eep_spelled : (text : List ℕ) (eep : Eep) → eep_in text ≡ Some eep → SpellsEep text eep
eep_spelled (a ∷ b ∷ x ∷ c ∷ d ∷ y ∷ e ∷ f ∷ []) eep h =
    let test = some_if _ _ eep h in
    let dashes = and_parts _ _ test.0 in
    let parts = eep_of_bytes-some _ _ _ eep test.1 in
    record {
      rorg = a ∷ b ∷ [];
      func = c ∷ d ∷ [];
      typ = e ∷ f ∷ [];
      whole = rw (eqb-true x 45 dashes.0, eqb-true y 45 dashes.1) refl;
      is_rorg = byte_spelled a b eep.rorg parts.0;
      is_func = byte_spelled c d eep.func parts.1;
      is_typ = byte_spelled e f eep.typ parts.2;
    }
eep_spelled text eep h = absurd cc

pub eep_read : (text : List ℕ) (eep : Eep) → SpellsEep text eep → eep_in text ≡ Some eep
eep_read text eep spells = grind (arith, byte_read)

-- ---- a state, and a quantity

pub named : (text name : List ℕ) → bytes_eq text name ≡ true → text ≡ name
named text name e = (bytes_eq-Decides text name).0 e

pub state_spelled : (text : List ℕ) (on : Bool) → state_in text ≡ Some on → text ≡ state_name on
state_spelled text on e = grind (arith, named)

pub state_read : (on : Bool) → state_in (state_name on) ≡ Some on
state_read on = grind arith

pub quantity_spelled : (text : List ℕ) (quantity : Quantity) → quantity_in text ≡ Some quantity
    → text ≡ quantity_name quantity
quantity_spelled text quantity e = grind (arith, named)

pub quantity_read : (quantity : Quantity) → quantity_in (quantity_name quantity) ≡ Some quantity
quantity_read quantity = grind arith

-- ---- the text of a label

pub text_spelled : (text name : List ℕ) → label_if_well_formed text ≡ Some name → (text ≡ name)
    × (is_nonempty_label name ≡ true)
text_spelled text name e = grind arith

pub text_read : (text name : List ℕ) → (text ≡ name) × (is_nonempty_label name ≡ true)
    → label_if_well_formed text ≡ Some name
text_read text name spells = grind arith
