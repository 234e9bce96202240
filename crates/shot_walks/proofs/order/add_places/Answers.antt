use Rattle.std.proofs.Common.{◌≡◌, ◌+◌, ◌<◌, ◌++◌, ◌∷◌, [], ◌∙◌, length, map, take, true, false, Some, refl, sym, ap, subst, arith}
use Rattle.std.proofs.lemmas.List.{append-nil, length-append}
use Rattle.std.proofs.lemmas.Option.{slice_get_read}
use Rattle.std.proofs.lemmas.List.Elements.{All-push}
use Rattle.std.specs.List.{All, slice_get}
use Rattle.latch_model.specs.Histories.{those_of}
use Rattle.shot_walks.specs.Orders.{latch_at}
use Rattle.shot_walks.proofs.Orders.{place_added, those_fewer, those_next}
use Rattle.shot_walks.proofs.order.add_places.Goals as goal
use Rattle.shot_walks.proofs.order.add_places.Goals.{then-is_of, else-is_of}

pub push-requires : goal.push-requires
push-requires c =
    let ls = c.args.latches.now in
    let l = c.index-latches-k.result in
    let k = c.loop-k.k in
    let at : slice_get ls k ≡ Some l = slice_get_read ls (length ls) k l refl c.loop-k-test.true c.index-latches-k.is in
    let next = those_next c.args.scope c.args.access ls k l true at (sym c.if-is_of.true ∙ c.is_of.ensures) in
    let more : length (those_of c.args.scope c.args.access (take (k + 1) ls)) ≡ length (those_of c.args.scope c.args.access (take k ls)) + 1 =
    ap length next ∙ length-append (those_of c.args.scope c.args.access (take k ls)) (l ∷ []) in
    let fewer = those_fewer c.args.scope c.args.access ls (k + 1) in
    let count = c.loop-k.invariant.count in
    let room = c.requires.room in
    let fits : length c.loop-k.order.items < 16 = omega arith in
    (omega arith, fits)

pub loop-k-preserved : goal.loop-k-preserved
loop-k-preserved c =
    let ls = c.args.latches.now in
    let l = c.index-latches-k.result in
    let k = c.loop-k.k in
    let at : slice_get ls k ≡ Some l = slice_get_read ls (length ls) k l refl c.loop-k-test.true c.index-latches-k.is in
    let these = those_of c.args.scope c.args.access (take k ls) in
    elim c.if-is_of.branch [
      | then-is_of w ↦
          let b = sym w.if-is_of.true ∙ c.is_of.ensures in
          let e : c.if-is_of.order.items ≡ c.loop-k.order.items ++ k ∷ [] = ap (λ o. o.items) w.order-is ∙ w.push.ensures.items in
          let more : length (those_of c.args.scope c.args.access (take (k + 1) ls)) ≡ length these + 1 =
          ap length (those_next c.args.scope c.args.access ls k l true at b) ∙ length-append these (l ∷ []) in
          let longer : length c.if-is_of.order.items ≡ length c.loop-k.order.items + 1 = ap length e ∙ length-append c.loop-k.order.items (k ∷ []) in
          let count = c.loop-k.invariant.count in
          record {
            added = place_added c.args.scope c.args.access ls k l c.args.order.now.items c.loop-k.order.items c.if-is_of.order.items at b e
                c.loop-k.invariant.added;
            count = omega arith;
            inside = subst (All (λ n. n < length ls)) (sym e) (All-push
                (λ n. n < length ls) c.loop-k.order.items k c.loop-k.invariant.inside c.loop-k-test.true);
          }
      | else-is_of w ↦
          let b = sym w.if-is_of.false ∙ c.is_of.ensures in
          let next : those_of c.args.scope c.args.access (take (k + 1) ls) ≡ these =
          those_next c.args.scope c.args.access ls k l false at b ∙ append-nil these in
          let e = ap (λ o. o.items) w.order-is in
          record {
            added = ap (map (latch_at ls)) e ∙ (c.loop-k.invariant.added ∙ ap (λ zs. map (latch_at ls) c.args.order.now.items ++ zs) (sym next));
            count = ap length e ∙ (c.loop-k.invariant.count ∙ ap (λ zs. length c.args.order.now.items + length zs) (sym next));
            inside = subst (All (λ n. n < length ls)) (sym e) c.loop-k.invariant.inside;
          }
    ]
