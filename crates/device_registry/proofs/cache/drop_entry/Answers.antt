use Rattle.keyed_table.proofs.Common.{◌∙◌, eqb, sym, eqb-false}
use Rattle.std.proofs.lemmas.Map.{lookup-remove_entry, none_passes_from_lookup}
use Rattle.std.specs.Cmp.{nat_eq_equiv}
use Rattle.lru.proofs.CallerLemmas.{Contains-remove_entry}
use Rattle.lru.proofs.Splits.{all_at}
use Rattle.device_registry.proofs.cache.drop_entry.Goals as goal

pub returns-clause-kept : goal.returns-clause-kept
returns-clause-kept c entry has =
    let left = rw c.pop-known.ensures.entries at has in
    let gone = lookup-remove_entry nat_eq_equiv (eqb c.args.id) (nat_eq_equiv.congr c.args.id) c.args.id
    c.args.cache.now.entries c.len-len.ensures.valid.0 ∙ rw (nat_eq_equiv.refl c.args.id) in (
      Contains-remove_entry _ _ entry left,
      λ is. eqb-false c.args.id entry.0 (all_at _ _ entry (none_passes_from_lookup _ _ gone) left) (sym is),
    )
