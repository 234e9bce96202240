use Rattle.std.proofs.Common.{subst, arith}
use Rattle.latch_item.specs.Puts.{Puts}
use Rattle.latch_item.proofs.Filling.{noted, storable, stored}
use Rattle.latch_item.proofs.write.put_word.Goals as goal

pub write-requires-clause-owned : goal.write-requires-clause-owned
write-requires-clause-owned c =
    let v = c.args.seat.now.view in let w = c.note.new.seat.view in
    let p = noted v w c.args.row c.args.word c.note.result c.requires.free c.note.ensures.view in
    let d = storable v w c.args.row c.args.word c.note.result c.requires.free p c.requires.place in
    (d.0, d.1, d.3, λ z. absurd (let a = c.requires.place.0 in omega arith))

pub returns-then-note-value-clause-put : goal.returns-then-note-value-clause-put
returns-then-note-value-clause-put c =
    let v = c.args.seat.now.view in let w = c.note.new.seat.view in
    let p = noted v w c.args.row c.args.word c.note.result c.requires.free c.note.ensures.view in
    stored v w c.write.new.seat.view c.args.row c.args.word c.note.result c.args.value c.requires.free c.requires.place p c.write.ensures.content

pub returns-else-note-value-clause-put : goal.returns-else-note-value-clause-put
returns-else-note-value-clause-put c =
    let v = c.args.seat.now.view in let w = c.note.new.seat.view in
    let p = noted v w c.args.row c.args.word c.note.result c.requires.free c.note.ensures.view in
    subst (λ n. Puts v w c.args.row c.args.word 1 (λ i. n)) c.if-note-value.false p
