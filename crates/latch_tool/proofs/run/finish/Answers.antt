use Rattle.std.proofs.Common.{arith, codes, rules}
use Rattle.latch_tool.specs.Outcomes.{Ends}
use Rattle.latch_tool.specs.declared.status.Status.TheVariants.{Memory, ReadFault}
use Rattle.latch_tool.proofs.run.finish.Goals as goal

pub returns-in-Err-ReadFault-clause-part : goal.returns-in-Err-ReadFault-clause-part
returns-in-Err-ReadFault-clause-part g c = λ form source ends failed.
    let so : Ends form source ReadFault (codes "read fault\n") = search rules in
    (ReadFault, codes "read fault\n", so, c.tell-in-Err-ReadFault.ensures.part failed)

pub returns-in-Err-Memory-clause-part : goal.returns-in-Err-Memory-clause-part
returns-in-Err-Memory-clause-part g c = λ form source ends failed.
    let so : Ends form source Memory (codes "out of memory\n") = grind arith in
    (Memory, codes "out of memory\n", so, c.tell-in-Err-Memory.ensures.part failed)
