-- Packets and the telegrams that they carry.
use Rattle.std.proofs.Common.{◌≡◌, ℕ, suc, ◌+◌, ◌-◌, ◌<◌, ◌≤◌, ◌^◌, Bool, true, false, not, ◌||◌}
use Rattle.std.proofs.Common.{◌&&◌, ◌==◌, nat_le, List, [], ◌∷◌, ◌++◌, length, get_or, take, drop, Option, Some, Result}
use Rattle.std.proofs.Common.{Ok, Err, IfOk, ◌↔◌, refl, sym, ap, subst, ◌∙◌, append_assoc, add-one, arith}
use Rattle.std.proofs.Common.{length-append, length-take, length-drop}
use Rattle.std.specs.Prelude.{slice_range, if◌then◌else◌}
use Rattle.std.specs.Int.{w32, from_be_bytes, to_be_bytes}
use Rattle.std.proofs.lemmas.Bool.{eqb-true, eq-eqb, ne_eqb, leb-true}
use Rattle.std.proofs.lemmas.List.{get_or-take, get_or-drop, get_or_at, take_at, drop_at, take_more, take_all}
use Rattle.std.proofs.lemmas.List.{take-append-drop}
use Rattle.std.proofs.lemmas.Nat.{from_be_bytes-to_be_bytes_4}
use Rattle.esp3_frames.specs.Packet.{Packet}
use Rattle.erp1_telegrams.specs.declared.telegram.TelegramFault.{TelegramFault}
use Rattle.erp1_telegrams.specs.declared.telegram.TelegramFault.TheVariants.{NotRadio, OtherKind, BadLength}
use Rattle.erp1_telegrams.specs.Telegram.{Telegram, CarriesTelegram, is_decoded_rorg, payload_length_fits, destination}
use Rattle.erp1_telegrams.specs.Telegram.{dbm_of_optional, telegram_in, telegram_of, radio_packet}

-- ---- the table of RORGs

some_test : (a b c d e u v w x y : Bool)
    → (if a then u else if b then v else if c then w else if d then x else if e then y else false) ≡ true
    → (a || b || c || d || e) ≡ true
some_test true b c d e u v w x y h = refl
some_test false true c d e u v w x y h = refl
some_test false false true d e u v w x y h = refl
some_test false false false true e u v w x y h = refl
some_test false false false false true u v w x y h = refl
some_test false false false false false u v w x y h = absurd cc

pub fits_kind : (r n : ℕ) → payload_length_fits r n ≡ true → is_decoded_rorg r ≡ true
fits_kind r n h = some_test (r == 0xF6) (r == 0xD5) (r == 0xA5) (r == 0xD2) (r == 0xD4) _ _ _ _ _ h

and_left : (a b : Bool) → (a && b) ≡ true → a ≡ true
and_left true b h = refl
and_left false b h = absurd cc

some_byte : (a b c d e : Bool) (n : ℕ)
    → (if a then n == 1 else if b then n == 1 else if c then n == 4 else if d then nat_le 1 n && nat_le n 14 else if e
    then n == 7 else false) ≡ true → 1 ≤ n
some_byte true b c d e n h = omega (arith, eqb-true n 1 h)
some_byte false true c d e n h = omega (arith, eqb-true n 1 h)
some_byte false false true d e n h = omega (arith, eqb-true n 4 h)
some_byte false false false true e n h = leb-true 1 n (and_left _ _ h)
some_byte false false false false true n h = omega (arith, eqb-true n 7 h)
some_byte false false false false false n h = absurd cc

-- every payload has at least one byte
pub fits_some : (r n : ℕ) → payload_length_fits r n ≡ true → 1 ≤ n
fits_some r n h = some_byte (r == 0xF6) (r == 0xD5) (r == 0xA5) (r == 0xD2) (r == 0xD4) n h

-- ---- a packet that carries a telegram is read as that telegram

-- the packet with this data
abbrev pub packed : ℕ → List ℕ → List ℕ → ℕ → List ℕ → Packet
packed r payload id status opt = record { kind = 1; body = r ∷ payload ++ id ++ status ∷ []; opt = opt }

packed_in : (r : ℕ) (payload id : List ℕ) (status : ℕ) (opt : List ℕ) → length id ≡ 4
    → telegram_in (packed r payload id status opt)
    ≡ record {
      rorg = r;
      payload = payload;
      sender = from_be_bytes w32 id;
      status = status;
      dest = destination opt;
      dbm = dbm_of_optional opt;
    }
packed_in r payload id status opt four =
    let all : List ℕ = r ∷ payload ++ id ++ status ∷ [] in
    let n : length all - 6 ≡ length payload =
    omega (arith, length-append (payload ++ id) (status ∷ []), length-append payload id) in
    let front : length payload + 1 ≡ length (r ∷ payload) = omega arith in
    let grouped : payload ++ id ++ status ∷ [] ≡ payload ++ (id ++ status ∷ []) =
    append_assoc payload id (status ∷ []) in
    let whole : all ≡ (r ∷ payload) ++ (id ++ status ∷ []) = ap (λ (y : List ℕ). r ∷ y) grouped in
    let one : length payload + 1 - 1 ≡ length payload = omega arith in
    let four_on : length payload + 5 - (length payload + 1) ≡ 4 = omega arith in
    let body_is : slice_range all 1 (length payload + 1) ≡ payload =
    ap (λ (i : ℕ). take i (payload ++ id ++ status ∷ [])) one ∙ ap (λ (y : List ℕ). take (length payload) y) grouped
    ∙ take_at payload (id ++ status ∷ []) (length payload) refl in
    let behind : drop (length payload + 1) all ≡ id ++ status ∷ [] =
    ap (λ (y : List ℕ). drop (length payload + 1) y) whole
    ∙ drop_at (r ∷ payload) (id ++ status ∷ []) (length payload + 1) (sym front) in
    let id_is : slice_range all (length payload + 1) (length payload + 5) ≡ id =
    ap (λ (i : ℕ). take i (drop (length payload + 1) all)) four_on ∙ ap (λ (y : List ℕ). take 4 y) behind
    ∙ take_at id (status ∷ []) 4 four in
    let status_is : get_or all (length payload + 5) 0 ≡ status =
    get_or_at (r ∷ payload ++ id) status [] 0 (length payload + 5) (omega (arith, length-append payload id)) in
    rw n (λ i. record {
      rorg = r;
      payload = body_is i;
      sender = from_be_bytes w32 (id_is i);
      status = status_is i;
      dest = destination opt;
      dbm = dbm_of_optional opt;
    })

pub packed_of : (r : ℕ) (payload id : List ℕ) (status : ℕ) (opt : List ℕ) → length id ≡ 4
    → payload_length_fits r (length payload) ≡ true
    → telegram_of (packed r payload id status opt)
    ≡ Ok (record {
      rorg = r;
      payload = payload;
      sender = from_be_bytes w32 id;
      status = status;
      dest = destination opt;
      dbm = dbm_of_optional opt;
    })
packed_of r payload id status opt four fit =
    let all : List ℕ = r ∷ payload ++ id ++ status ∷ [] in
    let some : (length all == 0) ≡ false = ne_eqb (length all) 0 (λ e. omega arith) in
    let kind : is_decoded_rorg r ≡ true = fits_kind r (length payload) fit in
    let n : length all - 6 ≡ length payload =
    omega (arith, length-append (payload ++ id) (status ∷ []), length-append payload id) in
    let fit_all : payload_length_fits r (length all - 6) ≡ true = ap (payload_length_fits r) n ∙ fit in
    rw (some, kind, fit_all) (ap (λ (t : Telegram). Ok t) (packed_in r payload id status opt four))

pub carried_of : (p : Packet) (t : Telegram) → CarriesTelegram p t → telegram_of p ≡ Ok t
carried_of p t h =
    let e : p ≡ packed t.rorg t.payload h.id t.status p.opt =
    λ i. record { kind = h.kind i; body = h.body i; opt = p.opt } in
    ap telegram_of e ∙ packed_of t.rorg t.payload h.id t.status p.opt h.four h.length_fits
    ∙ (λ i. Ok (record {
      rorg = t.rorg;
      payload = t.payload;
      sender = sym h.sender i;
      status = t.status;
      dest = sym h.dest i;
      dbm = sym h.dbm i;
    }))

-- ---- what is read is the telegram that the packet carries

guard : {T : Type 0} (b : Bool) (d : TelegramFault) (x : Result T TelegramFault) (t : T)
    → (if b then Err d else x) ≡ Ok t → (b ≡ false) × (x ≡ Ok t)
guard true d x t e = absurd cc
guard false d x t e = (refl, e)

not_false : (b : Bool) → not b ≡ false → b ≡ true
not_false true e = refl
not_false false e = absurd cc

-- five bytes are four bytes and one
five : (w : List ℕ) → length w ≡ 5 → w ≡ take 4 w ++ get_or w 4 0 ∷ []
five w h = sym (take_all 5 w (omega arith)) ∙ take_more w 4 0 (omega arith)

split_rest : (w : List ℕ) (n : ℕ) → length w ≡ n + 5 → w ≡ take n w ++ take 4 (drop n w) ++ get_or w (n + 4) 0 ∷ []
split_rest w n h =
    let last = five (drop n w) (omega (arith, length-drop n w)) in
    let at : get_or (drop n w) 4 0 ≡ get_or w (n + 4) 0 = get_or-drop n w 4 0 in
    sym (take-append-drop n w)
    ∙ ap (λ (y : List ℕ). take n w ++ y) (last ∙ ap (λ (s : ℕ). take 4 (drop n w) ++ s ∷ []) at)
    ∙ sym (append_assoc (take n w) (take 4 (drop n w)) (get_or w (n + 4) 0 ∷ []))

split_body : (b : List ℕ) (n : ℕ) → length b ≡ n + 6
    → b ≡ get_or b 0 0 ∷ slice_range b 1 (n + 1) ++ slice_range b (n + 1) (n + 5) ++ get_or b (n + 5) 0 ∷ []
split_body [] n h = absurd (omega arith)
split_body (r ∷ w) n h =
    let e1 : n + 1 - 1 ≡ n = omega arith in
    let e4 : n + 5 - (n + 1) ≡ 4 = omega arith in
    let e5 : n + 5 ≡ suc (n + 4) = omega arith in
    rw (e1, e4, add-one n, e5) (ap (λ (y : List ℕ). r ∷ y) (split_rest w n (omega arith)))

in_carried : (p : Packet) → p.kind ≡ 1 → payload_length_fits (get_or p.body 0 0) (length p.body - 6) ≡ true
    → CarriesTelegram p (telegram_in p)
in_carried p kind fit =
    let n : ℕ = length p.body - 6 in
    let some = fits_some (get_or p.body 0 0) n fit in
    let long : length p.body ≡ n + 6 = omega arith in
    let first : length (slice_range p.body 1 (n + 1)) ≡ n =
    omega (arith, length-take (n + 1 - 1) (drop 1 p.body), length-drop 1 p.body) in
    record {
      kind = kind;
      id = slice_range p.body (n + 1) (n + 5);
      four = omega (arith, length-take (n + 5 - (n + 1)) (drop (n + 1) p.body), length-drop (n + 1) p.body);
      body = split_body p.body n long;
      sender = refl;
      length_fits = ap (payload_length_fits (get_or p.body 0 0)) first ∙ fit;
      dest = refl;
      dbm = refl;
    }

pub of_carried : (p : Packet) (t : Telegram) → telegram_of p ≡ Ok t → CarriesTelegram p t
of_carried p t e =
    let a = guard (not (p.kind == 1)) NotRadio _ t e in
    let b = guard (length p.body == 0) BadLength _ t a.1 in
    let c = guard (not (is_decoded_rorg (get_or p.body 0 0))) OtherKind _ t b.1 in
    let d = guard (not (payload_length_fits (get_or p.body 0 0) (length p.body - 6))) BadLength _ t c.1 in
    let is : telegram_in p ≡ t = (let x = d.1 in cc) in
    subst (λ (u : Telegram). CarriesTelegram p u) is
    (in_carried p (eqb-true p.kind 1 (not_false _ a.0)) (not_false _ d.0))

pub one_carried : (p : Packet) (t u : Telegram) → CarriesTelegram p t → CarriesTelegram p u → t ≡ u
one_carried p t u h k =
    let e = sym (carried_of p t h) ∙ carried_of p u k in
    cc

-- ---- what is sent is read

pub sent_of : (t : Telegram) → payload_length_fits t.rorg (length t.payload) ≡ true → t.sender < 2 ^ 32
    → t.dest < 2 ^ 32
    → telegram_of (radio_packet t) ≡ Ok (record t { dbm = Some 255 })
sent_of t fit sender dest =
    let opt : List ℕ = 3 ∷ to_be_bytes w32 t.dest ++ 0xFF ∷ 0 ∷ [] in
    let s = from_be_bytes-to_be_bytes_4 t.sender sender in
    let d = from_be_bytes-to_be_bytes_4 t.dest dest in
    packed_of t.rorg t.payload (to_be_bytes w32 t.sender) t.status opt refl fit
    ∙ (λ i. Ok (record {
      rorg = t.rorg;
      payload = t.payload;
      sender = s i;
      status = t.status;
      dest = d i;
      dbm = Some 255;
    }))

-- ---- what the code reads

-- the result of `new`, as a decision list
made_is : (r : Result Telegram TelegramFault) (t : Telegram) (k f : Bool) → IfOk r (λ x. x ≡ t)
    → ((r ≡ Err OtherKind) ↔ (k ≡ false)) → ((r ≡ Err BadLength) ↔ ((k ≡ true) × (f ≡ false)))
    → (r ≡ Err NotRadio → ⊥)
    → r ≡ (if not k then Err OtherKind else if not f then Err BadLength else Ok t)
made_is r t false f o a b n = a.1 refl
made_is r t true false o a b n = b.1 (refl, refl)
made_is (Ok x) t true true o a b n = λ i. Ok (o i)
made_is (Err NotRadio) t true true o a b n = absurd (n refl)
made_is (Err OtherKind) t true true o a b n = absurd (let x = a.0 refl in cc)
made_is (Err BadLength) t true true o a b n = absurd (let x = (b.0 refl).1 in cc)

-- the data after the RORG, w, and the whole data, at one index
same_place : (b w : List ℕ) (n i j : ℕ) → w ≡ drop 1 b → i < 4 → j ≡ n + i
    → get_or w j 0 ≡ get_or (slice_range b (n + 1) (n + 5)) i 0
same_place b w n i j is below at =
    let place : 1 + j ≡ n + 1 + i = omega arith in
    ap (λ (y : List ℕ). get_or y j 0) is ∙ get_or-drop 1 b j 0 ∙ ap (λ (k : ℕ). get_or b k 0) place
    ∙ sym (get_or-drop (n + 1) b i 0) ∙ sym (get_or-take (n + 5 - (n + 1)) (drop (n + 1) b) i 0 (omega arith))

-- what the code reads from a packet: w is the data after the RORG, and its last five bytes are the ID and the status
pub record Taken (p : Packet) (w : List ℕ) (id to : ℕ) (level : Option ℕ) : Type 0 where
  pub kind : p.kind ≡ 1
  pub not_empty : 1 ≤ length p.body
  pub rest : w ≡ drop 1 p.body
  pub long : 5 ≤ length w
  pub sender : id ≡ from_be_bytes w32
      (get_or w (length w - 5) 0 ∷ get_or w (length w - 4) 0 ∷ get_or w (length w - 3) 0 ∷ get_or w
      (length w - 2) 0 ∷ [])
  pub dest : to ≡ destination p.opt
  pub dbm : level ≡ dbm_of_optional p.opt

abbrev pub taken : Packet → List ℕ → ℕ → ℕ → Option ℕ → Telegram
taken p w sender dest dbm =
    record {
      rorg = get_or p.body 0 0;
      payload = take (length w - 5) w;
      sender = sender;
      status = get_or w (length w - 1) 0;
      dest = dest;
      dbm = dbm;
    }

taken_in : (p : Packet) (w : List ℕ) (sender dest : ℕ) (dbm : Option ℕ) → Taken p w sender dest dbm
    → taken p w sender dest dbm ≡ telegram_in p
taken_in p w sender dest dbm h =
    let n : ℕ = length p.body - 6 in
    let rest = h.rest in
    let long = h.long in
    let len : length w ≡ n + 5 = omega (arith, ap length rest, length-drop 1 p.body) in
    let front : length w - 5 ≡ n + 1 - 1 = omega arith in
    let payload : take (length w - 5) w ≡ slice_range p.body 1 (n + 1) =
    ap (λ (i : ℕ). take i w) front ∙ ap (λ (y : List ℕ). take (n + 1 - 1) y) rest in
    let a = same_place p.body w n 0 (length w - 5) rest (omega arith) (omega arith) in
    let b = same_place p.body w n 1 (length w - 4) rest (omega arith) (omega arith) in
    let c = same_place p.body w n 2 (length w - 3) rest (omega arith) (omega arith) in
    let d = same_place p.body w n 3 (length w - 2) rest (omega arith) (omega arith) in
    let id : sender ≡ from_be_bytes w32 (slice_range p.body (n + 1) (n + 5)) =
    h.sender ∙ (λ i. from_be_bytes w32 (a i ∷ b i ∷ c i ∷ d i ∷ [])) in
    let last : 1 + (length w - 1) ≡ n + 5 = omega arith in
    let status : get_or w (length w - 1) 0 ≡ get_or p.body (n + 5) 0 =
    ap (λ (y : List ℕ). get_or y (length w - 1) 0) rest ∙ get_or-drop 1 p.body (length w - 1) 0
    ∙ ap (λ (k : ℕ). get_or p.body k 0) last in
    λ i. record {
      rorg = get_or p.body 0 0;
      payload = payload i;
      sender = id i;
      status = status i;
      dest = h.dest i;
      dbm = h.dbm i;
    }

pub taken_is : (p : Packet) (w : List ℕ) (sender dest : ℕ) (dbm : Option ℕ) (r : Result Telegram TelegramFault)
    → Taken p w sender dest dbm → IfOk r (λ x. x ≡ taken p w sender dest dbm)
    → ((r ≡ Err OtherKind) ↔ (is_decoded_rorg (get_or p.body 0 0) ≡ false))
    → ((r ≡ Err BadLength) ↔
    ((is_decoded_rorg (get_or p.body 0 0) ≡ true)
    × (payload_length_fits (get_or p.body 0 0) (length (take (length w - 5) w)) ≡ false)))
    → (r ≡ Err NotRadio → ⊥) → r ≡ telegram_of p
taken_is p w sender dest dbm r h o a b n =
    let rest = h.rest in
    let long = h.long in
    let is_radio : (p.kind == 1) ≡ true = eq-eqb p.kind 1 h.kind in
    let some : (length p.body == 0) ≡ false = ne_eqb (length p.body) 0 (λ e. let s = h.not_empty in omega arith) in
    let len : length (take (length w - 5) w) ≡ length p.body - 6 =
    omega (arith, length-take (length w - 5) w, ap length rest, length-drop 1 p.body) in
    let made =
    made_is r (taken p w sender dest dbm) (is_decoded_rorg (get_or p.body 0 0))
    (payload_length_fits (get_or p.body 0 0) (length (take (length w - 5) w))) o a b n in
    rw (is_radio, some, ← taken_in p w sender dest dbm h, ← len) made
