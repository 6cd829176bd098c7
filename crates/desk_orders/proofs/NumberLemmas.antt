-- The computed number of a text is the one that it spells, and the one that std reads.
use Rattle.std.proofs.Common.{◌≡◌, ◌≢◌, ℕ, ◌<◌, ◌≤◌, Bool, true, ◌&&◌, List, []}
use Rattle.std.proofs.Common.{◌∷◌, length, get_or, refl, sym, ap, ◌∙◌, arith, Option, Some, None, cond, suc, zero}
use Rattle.std.specs.Prelude.{Result, Ok}
use Rattle.std.specs.Char.{is_ascii_digit}
use Rattle.std.specs.Fmt.{decimal}
use Rattle.std.specs.List.{list_all}
use Rattle.std.specs.Str.{IsUtf8, all_ascii_digits}
use Rattle.std.specs.Str.Parse.{ParsesUnsigned, digits_value}
use Rattle.std.proofs.lemmas.Bool.{and_parts, leb-true}
use Rattle.std.proofs.lemmas.Bool.Decides.{nat_tests}
use Rattle.std.proofs.lemmas.Fmt.{IsAscii-from_digits, decimal-digits_value, decimal_is_IsNumeral, decimal_digit}
use Rattle.std.proofs.lemmas.Fmt.{first_decimal, length-decimal-le}
use Rattle.std.proofs.lemmas.Str.{IsUtf8-from_ascii}
use Rattle.std.proofs.lemmas.Str.Parse.{IsNumeralModel, digits_value_short, numerals_by_value, parse_gives}
use Rattle.std.proofs.lemmas.Str.Parse.{tells_all_ascii_digits}
use Rattle.desk_orders.specs.Words.{SpellsNumber, has_no_leading_zero, is_short_decimal, number_in}

abbrev AreDigits : List ℕ → Type 0
AreDigits ds = all_ascii_digits ds ≡ true

digits_model : IsNumeralModel AreDigits (digits_value 10)
digits_model = numerals_by_value AreDigits tells_all_ascii_digits

list_all_digits : (ds : List ℕ) → list_all is_ascii_digit ds ≡ all_ascii_digits ds
list_all_digits [] = refl
list_all_digits (d ∷ ds) = ap (λ b. is_ascii_digit d && b) (list_all_digits ds)

pub some_if : {A : Type 0} (b : Bool) (o : Option A) (x : A) → cond b o None ≡ Some x → (b ≡ true) × (o ≡ Some x)
some_if b o x e = grind arith

-- the properties of the text of a number
record Numeral (text : List ℕ) : Type 0 where
  digits : AreDigits text
  short : length text ≤ 5
  some : 0 < length text
  lead : get_or text 0 0 ≡ 48 → length text ≡ 1

first_digit : (text : List ℕ) → has_no_leading_zero text ≡ true
    → (0 < length text) × (get_or text 0 0 ≡ 48 → length text ≡ 1)
first_digit text is = grind (arith, nat_tests)

numeral : (text : List ℕ) → is_short_decimal text ≡ true → Numeral text
numeral text is = grind (arith, and_parts, first_digit, list_all_digits, leb-true)

numeral-below : (text : List ℕ) → Numeral text → digits_value 10 text < 100000
numeral-below text n = let le = digits_value_short digits_model text 5 n.digits n.short in omega (arith, le)

-- the text is UTF-8, and std reads its number
pub number-utf8 : (text : List ℕ) → is_short_decimal text ≡ true → IsUtf8 text
number-utf8 text is = IsUtf8-from_ascii text (IsAscii-from_digits text (digits_model.to text (numeral text is).digits))

pub number-parsed : {E : Type 0} (text : List ℕ) (r : Result ℕ E) → is_short_decimal text ≡ true
    → ParsesUnsigned 32 10 text r
    → r ≡ Ok (digits_value 10 text)
number-parsed text r is parses = grind (arith, numeral, numeral-below, parse_gives, digits_model)

-- the computed number is spelled
pub number_spelled : (text : List ℕ) (n : ℕ) → number_in text ≡ Some n → SpellsNumber text n
number_spelled text n e =
    let test = some_if (is_short_decimal text) (Some (digits_value 10 text)) n e in
    let is = numeral text test.0 in
    let below = numeral-below text is in
    let value : digits_value 10 text ≡ n = cc (test.1) in
    rw (← value) (sym (decimal-digits_value digits_model text is.digits is.some is.lead (omega (arith, below))), below)

-- and the number that is spelled is computed
number_from : (ds : List ℕ) (n : ℕ) → 0 < length ds → (1 < length ds → get_or ds 0 0 ≢ 48) → length ds ≤ 5
    → list_all is_ascii_digit ds ≡ true → digits_value 10 ds ≡ n → number_in ds ≡ Some n
number_from ds n some lead short digits value = grind (arith, nat_tests)

lead_decimal : (n : ℕ) → n < 100000 → 1 < length (decimal n) → get_or (decimal n) 0 0 ≢ 48
lead_decimal zero below long is = absurd (omega (arith, ap length (decimal_digit 0 (omega arith))))
lead_decimal (suc n) below long is = let some = first_decimal (suc n) (omega arith) (omega arith) in omega (arith, some)

pub number_read : (text : List ℕ) (n : ℕ) → SpellsNumber text n → number_in text ≡ Some n
number_read text n (is, below) =
    let numeral = decimal_is_IsNumeral n (omega arith) in
    let short = length-decimal-le 5 n (omega arith) (omega arith) (omega arith) in
    let digits = list_all_digits (decimal n) ∙ digits_model.from (decimal n) numeral.0.1 in
    ap number_in is ∙ number_from (decimal n) n numeral.0.0 (lead_decimal n below) short digits numeral.1
