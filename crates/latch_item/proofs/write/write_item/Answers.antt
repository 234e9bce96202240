use Rattle.std.proofs.Common.{◌≡◌, length, refl, ap, ◌∙◌, subst, arith}
use Rattle.latch_item.specs.Items.{Item, IsValid}
use Rattle.latch_item.specs.Bytes.{key_word}
use Rattle.latch_item.specs.Puts.{Puts}
use Rattle.latch_item.proofs.Filling.{Made, made}
use Rattle.latch_item.proofs.write.write_item.Goals as goal
use Rattle.latch_item.proofs.write.write_item.Goals.{After-write}

all : (c : After-write) → Made c.args.seat.now.view c.write.new.seat.view c.args.row
    (record { id = c.args.id; place = c.args.place; lane = c.args.lane; span = c.args.span.now; stamp = c.args.stamp })
all c =
    let x : Item = record { id = c.args.id; place = c.args.place; lane = c.args.lane; span = c.args.span.now; stamp = c.args.stamp } in
    let ok : IsValid x = record { span = c.key.ensures.valid; place = omega arith; lane = omega arith; logical = omega arith } in
    let key : c.bytes-key.result.now ≡ x.span.0 = c.bytes-key.ensures.bytes ∙ c.key.ensures.key in
    let free = c.requires.free in
    made c.args.seat.now.view c.put_head.new.seat.view c.put_bytes.new.seat.view c.put_bytes-2.new.seat.view c.write.new.seat.view c.args.row x
    (length c.bytes-key.result.now) (length c.end_bytes-end.result.now) free.0 ok (ap length key) (ap length c.end_bytes-end.ensures) free.1
    c.put_head.ensures.put
    (subst (λ bytes. Puts c.put_head.new.seat.view c.put_bytes.new.seat.view c.args.row 11 32 (key_word bytes)) key c.put_bytes.ensures.put)
    (subst (λ bytes. Puts c.put_bytes.new.seat.view c.put_bytes-2.new.seat.view c.args.row 43 32 (key_word bytes)) c.end_bytes-end.ensures
    c.put_bytes-2.ensures.put)
    (c.write.ensures.kind refl)

pub returns-clause-item : goal.returns-clause-item
returns-clause-item c = (all (goal.at.returns-clause-item c).After-write).item

pub returns-clause-only : goal.returns-clause-only
returns-clause-only c = (all (goal.at.returns-clause-only c).After-write).only

pub returns-clause-counts : goal.returns-clause-counts
returns-clause-counts c = (all (goal.at.returns-clause-counts c).After-write).counts
