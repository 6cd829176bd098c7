-- `with_transfer` makes a value of no bytes.
use mathlib.Core.Path.{refl}
use mathlib.Core.List.{[], ◌∷◌}
use mir.Syntax.{named}
use mir.Val.{vptr, vstruct, vnil}
use base.Logic.{emp, via, fst∗}
use contract.Running.{tables}
use types.Kit.{‵, raw, ◌$◌, ◌∵◌, !, qed, move, suffices, done}
use types.Run.{no_more, returns, enter}
use types.Part.{agg}
use types.ByLocal.{alloc_all, pass_all, free_all, look_at, sets}
use denote.Builtin.{u8, usize}
use denote.Exit.{yes}
use denote.RattleType.{RattleType, owns}
use denote.Ref.{shr_vals, shr_Tells}
use denote.Shadow.{pure_i}
use denote.Signature.{plain, types_at}
use denote.Slice.{slice_val, shr_slice_vals, shr_slice_Tells}
use denote.Triple.Entry.{alive}
use denote.Triple.Walked.{says, Stays, stay_none_ref, stay_none_slice, Goes-none_ref, Goes-none_slice, walk_of, ends_at}
use Rattle.std.proofs.Common.{◌++◌, length}
use Rattle.std.proofs.raw_atomic.Walks.{proved}
use Rattle.std.specs.contracts.result.Result as R
use Rattle.byte_io.specs.Transfers.{transfer_of}
use Rattle.byte_io.specs.contracts.failed.Failed as F
use Rattle.byte_io.specs.declared.history.History.{History}
use Rattle.byte_io.specs.contracts.history.History as T
use Rattle.byte_io.specs.contracts.history.History.with_transfer as f
use Rattle.byte_io.proofs.history.History.with_transfer.Statement.{statement}
use Rattle.byte_io.proofs.history.History.with_transfer.Code as code

abbrev answer_row : RattleType
answer_row = R.the_row usize F.the_row

abbrev stayed : Stays f.ended.signature.params f.ended.kept
stayed = (
  stay_none_ref (0 ∷ []) tt (plain (λ _. T.the_row)) yes,
  (stay_none_ref (1 ∷ []) tt (plain (λ _. answer_row)) yes, (stay_none_slice (2 ∷ []) tt (plain (λ _. u8)) yes, tt)),
)

pub with_transfer_spec : {M : Type 1} → statement M
with_transfer_spec 𝓤 𝓛 𝓜 𝓡 wired =
    let c = f.clauses 𝓛 𝓜.mem 𝓡.returns in let W = walk_of 𝓛 f.ended stayed c in
    let 𝓣 = tables 𝓤 𝓛.H 𝓜 𝓡 𝓡.env in
    proved 𝓛 f.ended stayed c 𝓜 𝓡 (
      Goes-none_ref 𝓛 3 (0 ∷ []) tt (plain (λ _. T.the_row)) yes,
      (
        Goes-none_ref 𝓛 3 (1 ∷ []) tt (plain (λ _. answer_row)) yes,
        (Goes-none_slice 𝓛 3 (2 ∷ []) tt (plain (λ _. u8)) yes, tt),
      ),
    )
    f.Key.name code.function (code.unfolded 𝓤 𝓛.H 𝓜 𝓡 wired)
    (λ κs. (shr_vals, (shr_vals, (shr_slice_vals, tt))))
    (λ κs. (
      shr_Tells (named 0) κs.0 T.the_row,
      (shr_Tells (named 1) κs.1.0 answer_row, (shr_slice_Tells (named 2) κs.1.1.0 u8, tt)),
    ))
    (λ κs qs bounds a g are.
    let self = vptr a.0.ref_ptr.0 a.0.ref_ptr.1 in let answer = vptr a.1.0.ref_ptr.0 a.1.0.ref_ptr.1 in
    let bytes = slice_val a.1.1.0.ref_ptr (length a.1.1.0.now) in
    let y : W.Ghost = ((κs, qs, bounds, a, (self ∷ [], (answer ∷ [], (bytes ∷ [], tt)))), g) in
    let made : History = record { transfers = a.0.now.transfers ++ transfer_of a.1.0.now a.1.1.0.now ∷ [] } in
    via 𝓤 _ (fst∗ 𝓤 _ (emp 𝓤))
    (qed 𝓛 (raw (alive 𝓛 f.signature κs qs) ∷ ‵ (owns (types_at f.signature.params κs) a y.0.4) ∷ []) ∵
    enter ! 𝓣.C 𝓣.Λ code.function (self ∷ answer ∷ bytes ∷ []) _ $
    alloc_all ! (λ l.
    pass_all ! refl ((tt, tt), ((tt, tt), ((tt, (tt, (record { fits = are.1.1.0.0.1.0 }, tt))), tt))) $
    sets ! (agg ! (no_more !)) refl (tt, tt) $ returns ! (look_at ! 0 refl) $ free_all ! refl $
    suffices ! _ (ends_at 𝓛 f.ended stayed c y (vstruct vnil) made (tt, (tt, (tt, tt))) (tt, (tt, (tt, tt)))) $
    says ! refl $
    pure_i ! (T.the_row.own_val made (vstruct vnil ∷ [])) ((λ vss. (tt, tt)), tt) ((tt, (refl, tt)), tt) $
    move ! (1 ∷ 2 ∷ 0 ∷ []) $ done !)))
