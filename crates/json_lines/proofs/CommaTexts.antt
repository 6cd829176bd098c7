-- Texts with no comma. If two lines have the same text, and the same names of their first members, the values of these
-- members are the same, if they have no comma.
use Rattle.std.proofs.Common.{◌≡◌, ◌≢◌, ℕ, zero, suc, ◌+◌, ◌<◌, ◌/◌, ◌%◌, false, List, [], ◌∷◌, ◌++◌, codes}
use Rattle.std.proofs.Common.{append_assoc, decimal, drop, length, map, take, Option, Some, None, refl, sym, ◌∙◌, arith}
use Rattle.std.proofs.Common.{pos, negsuc}
use Rattle.std.specs.Prelude.{◌==◌}
use Rattle.std.specs.List.{AllByRecursion, AllZip, flat_map, join_by}
use Rattle.std.specs.Fmt.{digits_onto, digits, digit_glyph, signed_decimal}
use Rattle.std.proofs.lemmas.Bool.{cond_both, lt-ltb}
use Rattle.std.proofs.lemmas.List.{append_cancel_left}
use Rattle.hex.specs.Hex.{IsBytes, encode_upper, encode_with}
use Rattle.erp1_telegrams.specs.declared.eep.Eep.{Eep}
use Rattle.json_lines.specs.Lines.{dbm_text, eep_string, in_quotes, member_text, text_or_null}
use Rattle.json_lines.specs.PacketLines.{id_string}
use Rattle.json_lines.proofs.HexTexts.{between, byte_bytes, id_bytes, on_eep}

-- ---- texts with no comma

-- what holds for the ten digits holds for each digit of a number
module _ (P : ℕ → Type 0) (each : (digit : ℕ) → digit < 10 → P (48 + digit)) where
  all-digits : (k n : ℕ) (later : List ℕ) → AllByRecursion P later → AllByRecursion P (digits_onto k 10 false n later)
  all-digits zero n later h = h
  all-digits (suc k) n later h =
      let digit : P (digit_glyph false (n % 10)) =
      rw (lt-ltb (n % 10) 10 (omega arith)) (each (n % 10) (omega arith)) in
      cond_both (n / 10 == 0) _ _ (AllByRecursion P) (λ last. (digit, h))
      (λ more. all-digits k (n / 10) (digit_glyph false (n % 10) ∷ later) (digit, h))

  pub all-decimal : (n : ℕ) → AllByRecursion P (decimal n)
  unfolding digits
  all-decimal n = all-digits 64 n [] tt

abbrev pub NoComma : List ℕ → Type 0
NoComma = AllByRecursion (λ c. c ≢ 44)

no-append : (a b : List ℕ) → NoComma a → NoComma b → NoComma (a ++ b)
no-append [] b in_a in_b = in_b
no-append (c ∷ a) b in_a in_b = (in_a.0, no-append a b in_a.1 in_b)

pub no-decimal : (n : ℕ) → NoComma (decimal n)
no-decimal = all-decimal (λ c. c ≢ 44) (omega arith)

pub no-dbm : (dbm : Option ℕ) → NoComma (text_or_null dbm_text dbm)
no-dbm None = omega arith
no-dbm (Some byte) = signed _
  where
    signed : (z : _) → NoComma (signed_decimal z)
    signed (pos n) = no-decimal n
    signed (negsuc n) = (omega arith, no-decimal (suc n))

pub no-maker : (maker : Option ℕ) → NoComma (text_or_null decimal maker)
no-maker None = omega arith
no-maker (Some maker) = no-decimal maker

no-hex : (bytes : List ℕ) → IsBytes bytes → NoComma (encode_upper bytes)
unfolding encode_with
no-hex [] h = tt
no-hex (byte ∷ rest) h =
    let high = between (byte / 16) (omega (arith, h 0)) in
    let low = between (byte % 16) (omega arith) in
    (omega arith, (omega arith, no-hex rest (λ i. h (suc i))))

pub no-quotes : (text : List ℕ) → NoComma text → NoComma (in_quotes text)
no-quotes text free = (omega arith, no-append text (codes "\"") free (omega arith))

pub no-bytes : (bytes : List ℕ) → IsBytes bytes → NoComma (in_quotes (encode_upper bytes))
no-bytes bytes h = no-quotes (encode_upper bytes) (no-hex bytes h)

pub no-id : (id : ℕ) → NoComma (id_string id)
no-id id = no-bytes _ (id_bytes id)

pub no-destination : (id : Option ℕ) → NoComma (text_or_null id_string id)
no-destination None = omega arith
no-destination (Some id) = no-id id

pub no-profile : (eep : Eep) → NoComma (eep_string eep)
no-profile eep = no-quotes _ (on_eep NoComma no-append (omega arith) (λ byte. no-hex _ (byte_bytes byte)) eep)

pub no-known_profile : (eep : Option Eep) → NoComma (text_or_null eep_string eep)
no-known_profile None = omega arith
no-known_profile (Some eep) = no-profile eep

-- two texts, each up to its first comma
peel : (a b x y : List ℕ) → NoComma a → NoComma b → a ++ 44 ∷ x ≡ b ++ 44 ∷ y → (a ≡ b) × (x ≡ y)
peel [] [] x y in_a in_b same = (refl, cc)
peel [] (c ∷ b) x y in_a in_b same = absurd (in_b.0 (cc))
peel (c ∷ a) [] x y in_a in_b same = absurd (in_a.0 (cc))
peel (c ∷ a) (d ∷ b) x y in_a in_b same = let (rest, after) = peel a b x y in_a.1 in_b.1 (cc) in (cc, after)

-- ---- the members of a line

-- a member's name, and the text of its value
abbrev pub Member : Type 0
Member = List ℕ × List ℕ

-- the text of a line from these members on, and what follows it
abbrev pub text_from : List Member → (more : List ℕ) → List ℕ
text_from members more = ((join_by member_text (codes ",") members ++ codes "}") ++ codes "\n") ++ more

regrouped : (name colon value comma next rest brace feed more : List ℕ)
    → (name ++ colon ++ value ++ (comma ++ next ++ rest) ++ brace ++ feed) ++ more
    ≡ name ++ colon ++ (value ++ (comma ++ (next ++ rest ++ brace ++ feed ++ more)))
regrouped name colon value comma next rest brace feed more = simp append_assoc

-- up to the second member
from-first : (first next : Member) (members : List Member) (more : List ℕ) → text_from (first ∷ next ∷ members) more
    ≡ (in_quotes first.0 ++ codes ":") ++ (first.1 ++ 44 ∷ text_from (next ∷ members) more)
from-first first next members more =
    regrouped (in_quotes first.0) (codes ":") first.1 (codes ",") (member_text next)
    (flat_map (λ m. codes "," ++ member_text m) members) (codes "}") (codes "\n") more

-- the first members of two lines
first-same : (a b c d : Member) (ms ns : List Member) (s t : List ℕ) → a.0 ≡ b.0 → NoComma a.1 → NoComma b.1
    → text_from (a ∷ c ∷ ms) s ≡ text_from (b ∷ d ∷ ns) t → (a.1 ≡ b.1) × (text_from (c ∷ ms) s ≡ text_from (d ∷ ns) t)
first-same a b c d ms ns s t name in_a in_b same =
    peel a.1 b.1 _ _ in_a in_b (append_cancel_left (in_quotes b.0 ++ codes ":") _ _
    (rw name at (sym (from-first a c ms s) ∙ same ∙ from-first b d ns t)))

-- some first members of two lines that have more
pub values-same : (n : ℕ) (ms ns : List Member) (s t : List ℕ) → n < length ms → n < length ns
    → map (λ m. m.0) (take n ms) ≡ map (λ m. m.0) (take n ns) → AllByRecursion (λ m. NoComma m.1) (take n ms)
    → AllByRecursion (λ m. NoComma m.1) (take n ns) → text_from ms s ≡ text_from ns t
    → AllZip (λ m n. m.1 ≡ n.1) (take n ms) (take n ns) × (text_from (drop n ms) s ≡ text_from (drop n ns) t)
values-same zero ms ns s t more others names in_ms in_ns same = (tt, same)
values-same (suc n) (a ∷ c ∷ ms) (b ∷ d ∷ ns) s t more others names in_ms in_ns same =
    let (value, rest) = first-same a b c d ms ns s t (cc) in_ms.0 in_ns.0 same in
    let (values, end) = values-same n (c ∷ ms) (d ∷ ns) s t (omega arith) (omega arith) (cc) in_ms.1 in_ns.1 rest in
    ((value, values), end)
values-same (suc n) ms ns s t more others names in_ms in_ns same = absurd (omega arith)
