-- For private postconditions: the cause of a failure.
use Rattle.std.specs.Prelude.{if◌then◌else◌}
use Rattle.learned_devices.specs.declared.fault.StoreFault.{StoreFault}
use Rattle.gateway_core.specs.declared.failure.Failure.{Failure}
use Rattle.gateway_core.specs.declared.failure.Failure.TheVariants.{BeforeCommit, AtCommit}
use Rattle.gateway_core.specs.Step.{Cause, Memory, Store}

abbrev pub cause_of : StoreFault → Cause
cause_of fault = if fault.is_memory then Memory else Store

abbrev pub cause_in : Failure → Cause
cause_in (BeforeCommit fault) = cause_of fault
cause_in (AtCommit fault) = cause_of fault
