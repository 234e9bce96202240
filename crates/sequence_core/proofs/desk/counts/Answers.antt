use Rattle.sequence_core.proofs.desk.counts.Goals as goal

pub returns : goal.returns
returns c log sizes holds legal =
    let same = c.counts-counted.ensures log sizes holds legal in
    λ i. record { read = (same i).read; pending = (same i).pending; write = (same i).write }
