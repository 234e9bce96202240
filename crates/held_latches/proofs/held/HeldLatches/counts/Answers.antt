use Rattle.std.proofs.Common.{nat_le, List, length, ap, sym, ◌∙◌}
use Rattle.std.specs.List.{count_by}
use Rattle.latch_model.specs.Histories.{HeldLatch}
use Rattle.span_key.specs.declared.scopes.Scope.TheVariants.{Global, Local}
use Rattle.held_latches.proofs.Scoped.{has-content}
use Rattle.held_latches.proofs.Counting.{pending-many, reads-many, writes-many}
use Rattle.held_latches.proofs.held.HeldLatches.counts.Goals as goal

pub returns-in-Global-clause-read : goal.returns-in-Global-clause-read
returns-in-Global-clause-read c = λ s n o.
    rw c.in-Global.is (c.counts.ensures.read o.global (has-content Global c.args.self.now o.global o.local o.kept) ∙ sym (reads-many o.global)
    ∙ ap (λ (xs : List HeldLatch). length xs) (sym o.global_reads))

pub returns-in-Global-clause-pending : goal.returns-in-Global-clause-pending
returns-in-Global-clause-pending c = λ s n o.
    let h = c.args.self.now in
    rw c.in-Global.is (c.counts.ensures.pending o.global (has-content Global h o.global o.local o.kept)
    ∙ pending-many h.global h.rows.items o.global o.kept.sound_global
    ∙ ap (λ (xs : List HeldLatch). count_by (λ (x : HeldLatch). nat_le h.global.writer x.by) xs) (sym o.global_reads))

pub returns-in-Global-clause-write : goal.returns-in-Global-clause-write
returns-in-Global-clause-write c = λ s n o.
    rw c.in-Global.is (c.counts.ensures.write o.global (has-content Global c.args.self.now o.global o.local o.kept) ∙ sym (writes-many o.global)
    ∙ ap (λ (xs : List HeldLatch). length xs) (sym o.global_writes))

pub returns-in-Local-clause-read : goal.returns-in-Local-clause-read
returns-in-Local-clause-read c = λ s n o.
    rw c.in-Local.is (c.counts-in-Local.ensures.read o.local (has-content Local c.args.self.now o.global o.local o.kept) ∙ sym (reads-many o.local)
    ∙ ap (λ (xs : List HeldLatch). length xs) (sym o.local_reads))

pub returns-in-Local-clause-pending : goal.returns-in-Local-clause-pending
returns-in-Local-clause-pending c = λ s n o.
    let h = c.args.self.now in
    rw c.in-Local.is (c.counts-in-Local.ensures.pending o.local (has-content Local h o.global o.local o.kept)
    ∙ pending-many h.local h.rows.items o.local o.kept.sound_local
    ∙ ap (λ (xs : List HeldLatch). count_by (λ (x : HeldLatch). nat_le h.local.writer x.by) xs) (sym o.local_reads))

pub returns-in-Local-clause-write : goal.returns-in-Local-clause-write
returns-in-Local-clause-write c = λ s n o.
    rw c.in-Local.is (c.counts-in-Local.ensures.write o.local (has-content Local c.args.self.now o.global o.local o.kept) ∙ sym (writes-many o.local)
    ∙ ap (λ (xs : List HeldLatch). length xs) (sym o.local_writes))
