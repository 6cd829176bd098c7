use Rattle.device_registry.proofs.registry.RegistryOver.relabel.Goals as goal

pub returns-clause-written : goal.returns-clause-written
returns-clause-written g c clean devices has =
    rw c.in-Some.ensures.some at c.relabel_as.ensures.written clean devices has
