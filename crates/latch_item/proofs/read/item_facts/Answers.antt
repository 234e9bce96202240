use Rattle.std.proofs.Common.{◌∙◌, arith}
use Rattle.latch_item.proofs.Rows.{kept, valid-of}
use Rattle.latch_item.proofs.read.item_facts.Goals as goal

pub overflow_cast-place : goal.overflow_cast-place
overflow_cast-place c =
    let (x, b) = c.requires.item in
    let e = c.read_word-place.ensures.word x (kept c.args.seat.now c.read_word-id.new.seat c.args.a x c.read_word-id.ensures.same b) in
    let f = (valid-of c.args.seat.now.view c.args.a x b).place in omega arith

pub overflow_cast-lane : goal.overflow_cast-lane
overflow_cast-lane c =
    let (x, b) = c.requires.item in
    let e = c.read_word-lane.ensures.word x (kept c.args.seat.now c.read_word-place.new.seat c.args.a x (c.read_word-place.ensures.same
    ∙ c.read_word-id.ensures.same) b) in
    let f = (valid-of c.args.seat.now.view c.args.a x b).lane in omega arith

pub overflow_cast-logical : goal.overflow_cast-logical
overflow_cast-logical c =
    let (x, b) = c.requires.item in
    let e = c.read_word-logical.ensures.word x (kept c.args.seat.now c.read_word-wall.new.seat c.args.a x (c.read_word-wall.ensures.same
    ∙ c.read_word-lane.ensures.same ∙ c.read_word-place.ensures.same ∙ c.read_word-id.ensures.same) b) in
    let f = (valid-of c.args.seat.now.view c.args.a x b).logical in omega arith

pub returns-clause-facts : goal.returns-clause-facts
returns-clause-facts c = λ x b.
    let v = c.args.seat.now in
    let two = c.read_word-id.ensures.same in let three = c.read_word-place.ensures.same ∙ two in let four = c.read_word-lane.ensures.same ∙ three in
    let five = c.read_word-wall.ensures.same ∙ four in
    let w = c.read_word-wall.ensures.word x (kept v c.read_word-lane.new.seat c.args.a x four b) in
    let l = c.read_word-logical.ensures.word x (kept v c.read_word-wall.new.seat c.args.a x five b) in (
      c.read_word-id.ensures.word x b,
      c.read_word-place.ensures.word x (kept v c.read_word-id.new.seat c.args.a x two b),
      c.read_word-lane.ensures.word x (kept v c.read_word-place.new.seat c.args.a x three b),
      λ i. record { wall = w i; logical = l i },
    )
