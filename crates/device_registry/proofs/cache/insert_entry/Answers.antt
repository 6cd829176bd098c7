use Rattle.keyed_table.proofs.Common.{eqb-true, ◌≡◌, ◌⊎◌, inl, inr, ℕ, Result, Ok, Err, OnOk, OnErr, Contains, sym, eqb}
use Rattle.device_registry.proofs.Common.{LruCache, lru_cache}
use Rattle.lru.specs.LruCache.{put_entries}
use Rattle.lru.proofs.CallerLemmas.{Contains-put_entries}
use Rattle.device_registry.proofs.cache.insert_entry.Goals as goal

-- each entry is an old one or the added one; without memory, the cache is unchanged
kept : {V A B : Type 0} (old new : LruCache ℕ V) (id : ℕ) (v : V) (r : Result A B)
    → OnOk r (new ≡ lru_cache (put_entries eqb old id v) old.cap) → OnErr r (new ≡ old) → (e : ℕ × V)
    → Contains new.entries e → Contains old.entries e ⊎ (e ≡ (id, v))
kept old new id v (Ok a) put same e has = elim (Contains-put_entries eqb old id v e (rw put at has)) [
  | inl was ↦ inl was
  | inr (is, inl same) ↦ inr (λ i. (same i, is i))
  | inr (is, inr tied) ↦ inr (λ i. (sym (eqb-true id e.0 tied.2) i, is i))
]
kept old new id v (Err b) put same e has = inl (rw same at has)

pub returns-clause-kept : goal.returns-clause-kept
returns-clause-kept c = kept _ _ _ _ c.put-replaced.result c.put-replaced.ensures.entries c.put-replaced.ensures.err
