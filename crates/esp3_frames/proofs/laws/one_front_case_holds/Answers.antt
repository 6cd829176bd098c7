use Rattle.esp3_frames.proofs.FrontLemmas.{one_front_case_holds, begins_not_may, empty_may_become, begins-longer}
use Rattle.esp3_frames.proofs.FrontLemmas.{never-longer}
use Rattle.esp3_frames.proofs.laws.one_front_case_holds.Goals as goal

pub returns : goal.returns
returns c = record {
  decided = one_front_case_holds;
  apart = begins_not_may;
  empty = empty_may_become;
  begins_stays = begins-longer;
  never_stays = never-longer;
}
