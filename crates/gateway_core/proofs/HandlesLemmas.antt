-- Inputs that are handled, one after another, and lines that are too long, which are all handled alike.
use Rattle.std.proofs.Common.{◌≡◌, inr, ℕ, ◌<◌, List, [], ◌∷◌, ◌++◌, length, length-append, refl, sym, ◌∙◌, arith}
use Rattle.std.proofs.lemmas.Bool.{lt-ltb}
use Rattle.learned_devices.proofs.ForCallers.{no_more_commits, more_commits_then}
use Rattle.learned_devices.specs.DeviceStoreState.{DeviceStoreState}
use Rattle.gateway_state.specs.declared.error_reason.ErrorReason.TheVariants.{TooLong}
use Rattle.desk_orders.specs.Limits.{max_line}
use Rattle.gateway_core.specs.Step.{State, Input, Ordered, Answer, error_effect, line_effect}
use Rattle.gateway_core.specs.Run.{InputResult, Run}
use Rattle.gateway_core.specs.CrashStates.{nothing_committed_yet, crash_states, IsCrashConsistent}
use Rattle.gateway_core.specs.Handling.{HandlerValue, Handles}
use Rattle.gateway_core.proofs.CrashLemmas.{crash_consistency_composes, crash_consistent-weaker}
use Rattle.gateway_core.proofs.RunLemmas.{run-append}

module _ {S : Type 0} (stored : S → DeviceStoreState) where
  pub handles-nothing : (handler : HandlerValue S) → Handles stored handler [] [] handler
  handles-nothing handler = record {
    base = refl;
    clean = λ honest. honest;
    reopenable = λ honest before. before;
    commits = λ honest. no_more_commits 0 refl;
    ran_from_any = λ honest start at. record {
      results = [];
      last = start;
      run = refl;
      at = at;
      crash = λ left may. inr (refl, may);
    };
  }

  pub handles-append : (old mid new : HandlerValue S) (inputs more : List Input) (answers after : List Answer)
      → Handles stored old inputs answers mid → Handles stored mid more after new
      → Handles stored old (inputs ++ more) (answers ++ after) new
  handles-append old mid new inputs more answers after first second = record {
    base = second.base ∙ first.base;
    clean = λ honest. first.clean (second.clean honest);
    reopenable = λ honest before. second.reopenable honest (first.reopenable (second.clean honest) before);
    commits = λ honest. rw (length-append inputs more)
        (more_commits_then (first.commits (second.clean honest)) (second.commits honest));
    ran_from_any = λ honest start at.
        let from_first = first.ran_from_any (second.clean honest) start at in
        let from_second = second.ran_from_any honest from_first.last from_first.at in
        let Before = (stored old.registry).may_recover in
        record {
          results = from_first.results ++ from_second.results;
          last = from_second.last;
          run = run-append start from_first.last from_second.last inputs more from_first.results from_second.results
              answers after from_first.run from_second.run;
          at = from_second.at;
          crash = λ left may. crash_consistency_composes Before start from_first.last inputs more from_first.results
              from_second.results answers
              left from_first.run
              (crash_consistent-weaker (stored mid.registry).may_recover
              (IsCrashConsistent Before (crash_states nothing_committed_yet start inputs from_first.results))
              from_first.crash _ left (from_second.crash left may));
        };
  }

-- ---- lines that are too long

too_long-effect : (start : State) (line : List ℕ) → max_line < length line
    → line_effect start line ≡ error_effect TooLong
too_long-effect start line long = rw (lt-ltb max_line (length line) long)

-- from_first run on one line depends only on its effect
run-depends_on_effect : (old new : State) (line other : List ℕ) (results : List InputResult) (answers : List Answer)
    → line_effect old line ≡ line_effect old other → Run old (Ordered line ∷ []) results answers new
    → Run old (Ordered other ∷ []) results answers new
run-depends_on_effect old new line other results answers same run = grind arith

-- and so do its crash states
crash_states-depend_on_effect : (old : State) (line other : List ℕ) (results : List InputResult)
    → line_effect old line ≡ line_effect old other
    → crash_states nothing_committed_yet old (Ordered line ∷ []) results
    ≡ crash_states nothing_committed_yet old (Ordered other ∷ []) results
crash_states-depend_on_effect old line other results same = grind arith

module _ {S : Type 0} (stored : S → DeviceStoreState) where
  -- two lines that are too long are handled alike
  pub too_long-handled_alike : (old new : HandlerValue S) (short long : List ℕ) (answers : List Answer)
      → max_line < length short
      → max_line < length long → Handles stored old (Ordered short ∷ []) answers new
      → Handles stored old (Ordered long ∷ []) answers new
  too_long-handled_alike old new short long answers over_by_short over_by_long handled = record {
    base = handled.base;
    clean = handled.clean;
    reopenable = handled.reopenable;
    commits = handled.commits;
    ran_from_any = λ honest start at.
        let same = too_long-effect start short over_by_short ∙ sym (too_long-effect start long over_by_long) in
        let from = handled.ran_from_any honest start at in
        record {
          results = from.results;
          last = from.last;
          run = run-depends_on_effect start from.last short long from.results answers same from.run;
          at = from.at;
          crash = λ left may. rw (← crash_states-depend_on_effect start short long from.results same)
              (from.crash left may);
        };
  }
