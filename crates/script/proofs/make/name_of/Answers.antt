use Rattle.std.proofs.Common.{arith}
use Rattle.script.proofs.Measured.{name_is}
use Rattle.script.proofs.make.name_of.Goals as goal

pub of-requires : goal.of-requires
of-requires c =
    rw (c.push_str.ensures.bytes, c.push.ensures.ascii (omega arith), c.new-text.ensures, c.format.ensures.text)
    (name_is c.args.i c.requires)
