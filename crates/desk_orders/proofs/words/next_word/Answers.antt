use Rattle.std.proofs.Common.{arith, ap, ◌∙◌}
use Rattle.std.proofs.lemmas.List.{take_rest}
use Rattle.desk_orders.specs.Words.{remaining_words}
use Rattle.desk_orders.proofs.WordLemmas.{words-found, words-none}
use Rattle.desk_orders.proofs.words.next_word.Goals as goal

pub returns-in-Some : goal.returns-in-Some
returns-in-Some c = grind (arith, take_rest, words-found)

pub returns-in-None : goal.returns-in-None
returns-in-None c = ap remaining_words c.in_ok-line.was ∙ words-none c.in_ok-line.line.now c.in-None.ensures
