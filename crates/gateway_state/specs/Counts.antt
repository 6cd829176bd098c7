-- The counters of the gateway. Own choice: a counter of 64 bits that has reached its maximum does not change.
use Rattle.std.specs.Prelude.{ℕ, ◌+◌, ◌-◌, ◌^◌, min, Option, Some, None}
use Rattle.gateway_state.specs.declared.counts.Counter.{Counter}
use Rattle.gateway_state.specs.declared.counts.Counter.TheVariants.{Ignored, Reading, Failed, Response, TeachLine}
use Rattle.gateway_state.specs.declared.counts.Counts.{Counts}

-- all counters are 0
abbrev pub zero_counts : Counts
zero_counts = record { ignored = 0; readings = 0; refused = 0; responses = 0; teach = 0 }

-- a counter, plus n, up to its maximum
abbrev pub saturated_sum : (count n : ℕ) → ℕ
saturated_sum count n = min (count + n) (2 ^ 64 - 1)

-- a counter, plus one
abbrev pub saturated_increment : (count : ℕ) → ℕ
saturated_increment count = saturated_sum count 1

-- one counter is incremented, and the others stay
abbrev pub increment : Counts → Counter → Counts
increment counts Ignored = record counts { ignored = saturated_increment counts.ignored }
increment counts Reading = record counts { readings = saturated_increment counts.readings }
increment counts Failed = record counts { refused = saturated_increment counts.refused }
increment counts Response = record counts { responses = saturated_increment counts.responses }
increment counts TeachLine = record counts { teach = saturated_increment counts.teach }

-- one counter is incremented, or none
abbrev pub increment_if_any : Counts → Option Counter → Counts
increment_if_any counts None = counts
increment_if_any counts (Some count) = increment counts count
