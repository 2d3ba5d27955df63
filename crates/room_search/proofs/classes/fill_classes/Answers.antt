-- `fill_classes` meets its contract. The loop's invariant: the cells below v have their class, and `layer` counts those of them that share v's x.
use Rattle.std.proofs.Common.{arith, inl, inr, mul-le-mul}
use Rattle.room_search.specs.ClassLaws.{layer_le, filling-none, filling-next, filling-all}
use Rattle.room_search.proofs.classes.fill_classes.Goals as goal
use Rattle.room_search.proofs.classes.fill_classes.Goals.{then-layer-area, else-layer-area}

pub overflow_mul-area : goal.overflow_mul-area
overflow_mul-area c = record { fits = omega (arith, mul-le-mul c.requires.good.y_most c.requires.good.z_most) }

pub loop-v-init : goal.loop-v-init
loop-v-init c = filling-none _ c.requires.classes_len

pub kind_below-requires : goal.kind_below-requires
kind_below-requires c = let h = rw c.requires.kinds_len at c.loop-v-test.true in (c.loop-v-test.true, layer_le c.requires.good c.loop-v.invariant h)

pub bounds-classes-v : goal.bounds-classes-v
bounds-classes-v c = omega (arith, c.loop-v.invariant.long, c.requires.kinds_len)

pub overflow_add-layer : goal.overflow_add-layer
overflow_add-layer c =
    let G = c.requires.good in let h = rw c.requires.kinds_len at c.loop-v-test.true in
    record { fits = omega (arith, layer_le G c.loop-v.invariant h, h, G.few) }

pub loop-v-preserved : goal.loop-v-preserved
loop-v-preserved c =
    let G = c.requires.good in let I = c.loop-v.invariant in let h = rw c.requires.kinds_len at c.loop-v-test.true in
    elim c.if-layer-area.branch [
      | then-layer-area w ↦ filling-next G I h _ (rw c.kind_below.ensures at c.class_for.ensures) _ (inl (w.if-layer-area.true, w.layer-is))
      | else-layer-area w ↦ filling-next G I h _ (rw c.kind_below.ensures at c.class_for.ensures) _ (inr (w.if-layer-area.false, w.layer-is))
    ]

pub returns : goal.returns
returns c = filling-all c.loop-v.invariant (rw c.requires.kinds_len at c.loop-v-test.false)
