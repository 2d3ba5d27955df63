-- Laws of repeaters in the laid room: one that stands with a direction is only ever replaced by another such, so it does at last.
use Rattle.std.specs.Prelude.{◌≡◌, ◌≢◌, Bool, ◌&&◌, ◌||◌, length, get_or}
use Rattle.std.proofs.Math.Path.{refl}
use Rattle.std.proofs.Common.{sym, ◌∙◌, inl, inr, arith}
use Rattle.std.proofs.Math.Bool.{true, false, not}
use mathlib.Core.List.{List, [], ◌∷◌}
use Prim.Native.Nat.{ℕ, zero, suc, ◌<◌}
use Rattle.std.proofs.Math.Dec.{eqb}
use borrow.Author.Tests.{eqb-true, not-true}
use Rattle.basics.specs.Tests.{ask, ask_same, never, and_left, and_right}
use Rattle.basics.specs.Lists.{In}
use Rattle.basics.specs.Folds.{along}
use Rattle.room.specs.declared.Room.{Room}
use Rattle.room.specs.Room.{volume}
use Rattle.room.specs.Units.{air, repeater, no_facing}
use Rattle.routing_resources.specs.Marks.{is_marked}
use Rattle.ends.specs.declared.Tap.{Tap}
use Rattle.repeaters.specs.Repeaters.{facing_of}
use Rattle.laying.specs.Laying.{Net, Laid, placed, support_kind, laid_cell, laid_repeater, laid_sink, direction_of, marked_cells, next_on, parents_on, powered_at, laid_net}
use Rattle.laying.specs.Statements.{Keeps}
use Rattle.laying.specs.StandLaws.{Long, placed-long, cell-long, placed-stands, has_turn, sink-long}
use Rattle.laying.specs.KeepLaws.{passing_keeps, list-keeps, placed-keeps, cell_full}
use Rattle.net_list_claims.specs.Statements.{net_in, AllDirected, PutsRepeater, StandsDirected}

module _ (R : Room) (v : ℕ) (h : v < volume R) where
  -- in a room of V cells
  record Firm (L : Laid) : Type 0 where
    pub long : Long (volume R) L
    pub stands : StandsDirected L v

  kept-stands : {L M : Laid} → Keeps L M v → StandsDirected L v → StandsDirected M v
  kept-stands K S = record { kind-is = K.kind ∙ S.kind-is; directed = λ z. S.directed (sym K.facing ∙ z) }

  -- a repeater with a direction is put there, or elsewhere
  put_firm : (facing : ℕ) (L : Laid) → facing ≢ no_facing → Long (volume R) L → Firm (placed repeater facing v L)
  put_firm facing L n l =
      let P = placed-stands repeater facing v L l h in
      record { long = placed-long repeater facing v L l; stands = record { kind-is = P.kind-is; directed = λ z. n (sym P.facing-is ∙ z) } }

  placed_firm : (facing cell : ℕ) (L : Laid) → facing ≢ no_facing → Firm L → Firm (placed repeater facing cell L)
  placed_firm facing cell L n F =
      ask_same v cell
      (λ e. rw (← e) (put_firm facing L n F.long))
      (λ d. record { long = placed-long repeater facing cell L F.long; stands = kept-stands (placed-keeps repeater facing cell L v d) F.stands })

  full : {L : Laid} → StandsDirected L v → get_or L.kinds v 0 ≢ air
  full S z = let q : repeater ≡ air = sym S.kind-is ∙ z in absurd (omega arith)

  module _ (N : Net) (D : AllDirected R N) where
    cell_firm : (u : ℕ) (L : Laid) → Firm L → Firm (laid_cell R (next_on R N) N.taps N.repeaters u L)
    cell_firm u L F = record {
      long = cell-long R (support_kind R (next_on R N) N.taps N.repeaters u) (is_marked N.repeaters u) u L F.long;
      stands = kept-stands (cell_full R (support_kind R (next_on R N) N.taps N.repeaters u) (is_marked N.repeaters u) u L v (full F.stands)) F.stands;
    }

    repeater_firm : (u : ℕ) (L : Laid) → is_marked N.repeaters u ≡ true → Firm L → Firm (laid_repeater R (parents_on R N) u L)
    repeater_firm u L t F = placed_firm (direction_of R (parents_on R N) u) u L (D.planned u t) F

    sink_firm : (tap : Tap) (L : Laid) → In tap N.taps → Firm L → Firm (laid_sink R tap L)
    unfolding laid_sink
    sink_firm tap L i F = ask tap.wire (λ t. rw t F) (λ f. rw f (placed_firm (facing_of R tap.approach tap.terminal) tap.terminal L (D.power tap i f) F))

    abbrev wired : Laid → Laid
    wired L = along (laid_cell R (next_on R N) N.taps N.repeaters) (marked_cells R N.occupied) L

    abbrev turned : Laid → Laid
    turned L = along (laid_repeater R (parents_on R N)) (marked_cells R N.repeaters) L

    wired-long : (L : Laid) → Long (volume R) L → Long (volume R) (wired L)
    wired-long =
        passing_keeps (Long (volume R)) (laid_cell R (next_on R N) N.taps N.repeaters) (is_marked N.occupied)
        (λ u x t. cell-long R (support_kind R (next_on R N) N.taps N.repeaters u) (is_marked N.repeaters u) u x) (volume R) 0

    turned-long : (L : Laid) → Long (volume R) L → Long (volume R) (turned L)
    turned-long =
        passing_keeps (Long (volume R)) (laid_repeater R (parents_on R N)) (is_marked N.repeaters)
        (λ u x t. placed-long repeater (direction_of R (parents_on R N) u) u x) (volume R) 0

    sinks_firm : (L : Laid) → Firm L → Firm (along (laid_sink R) N.taps L)
    sinks_firm = list-keeps Firm (laid_sink R) N.taps sink_firm

    -- a net keeps the repeater that stands there
    net_firm : (L : Laid) → Firm L → Firm (laid_net R N L)
    unfolding laid_net
    net_firm L F =
        sinks_firm _
        (passing_keeps Firm (laid_repeater R (parents_on R N)) (is_marked N.repeaters) repeater_firm (volume R) 0 _
        (passing_keeps Firm (laid_cell R (next_on R N) N.taps N.repeaters) (is_marked N.occupied) (λ u x t. cell_firm u x) (volume R) 0 L F))

    net-long : (L : Laid) → Long (volume R) L → Long (volume R) (laid_net R N L)
    unfolding laid_net
    net-long L l = list-keeps (Long (volume R)) (laid_sink R) N.taps (λ tap x i. sink-long R tap x) _ (turned-long (wired L) (wired-long L l))

    -- and puts those of its own
    planned_firm : is_marked N.repeaters v ≡ true → (L : Laid) → Long (volume R) L → Firm (turned L)
    planned_firm t =
        has_turn (laid_repeater R (parents_on R N)) (is_marked N.repeaters) Firm (Long (volume R)) v
        (λ x l. put_firm (direction_of R (parents_on R N) v) x (D.planned v t) l) repeater_firm
        (λ u x m. placed-long repeater (direction_of R (parents_on R N) u) u x) (volume R) 0 (omega arith) (omega arith) t

    power_firm : (taps : List Tap) → ((tap : Tap) → In tap taps → In tap N.taps) → powered_at taps v ≡ true → (L : Laid) → Long (volume R) L → Firm (along (laid_sink R) taps L)
    unfolding powered_at along laid_sink
    power_firm [] sub t L l = never (cc)
    power_firm (tap ∷ taps) sub t L l =
        ask (not tap.wire && eqb tap.terminal v)
        (λ q. list-keeps Firm (laid_sink R) taps (λ b x i. sink_firm b x (sub b (inr i))) (laid_sink R tap L) (put q))
        (λ q. power_firm taps (λ b i. sub b (inr i)) (rw q at t) (laid_sink R tap L) (sink-long R tap L l))
      where
        put : not tap.wire && eqb tap.terminal v ≡ true → Firm (laid_sink R tap L)
        put q =
            let f : tap.wire ≡ false = not-true _ (and_left _ _ q) in
            let e : tap.terminal ≡ v = eqb-true _ _ (and_right (not tap.wire) _ q) in
            rw (f, e) (put_firm (facing_of R tap.approach v) L (rw e at (D.power tap (sub tap (inl refl)) f)) l)

    net_puts : PutsRepeater N v → (L : Laid) → Long (volume R) L → Firm (laid_net R N L)
    unfolding laid_net
    net_puts p L l =
        ask (powered_at N.taps v)
        (λ t. power_firm N.taps (λ tap i. i) t (turned (wired L)) (turned-long (wired L) (wired-long L l)))
        (λ f. sinks_firm _ (planned_firm (or_first (is_marked N.repeaters v) (rw f at p)) (wired L) (wired-long L l)))
      where
        or_first : (a : Bool) → a || false ≡ true → a ≡ true
        or_first true e = refl
        or_first false e = e

  -- ---- all nets

  nets_firm : (nets : List Net) → ((k : ℕ) → k < length nets → AllDirected R (net_in nets k)) → (L : Laid) → Firm L → Firm (along (laid_net R) nets L)
  unfolding along
  nets_firm [] D L F = F
  nets_firm (N ∷ nets) D L F = nets_firm nets (λ k l. D (suc k) (omega arith)) (laid_net R N L) (net_firm N (D 0 (omega arith)) L F)

  nets-put : (nets : List Net) → ((k : ℕ) → k < length nets → AllDirected R (net_in nets k)) → (k : ℕ) → k < length nets → PutsRepeater (net_in nets k) v
      → (L : Laid) → Long (volume R) L → Firm (along (laid_net R) nets L)
  unfolding along
  nets-put [] D k l p L q = absurd (omega arith)
  nets-put (N ∷ nets) D zero l p L q = nets_firm nets (λ k l. D (suc k) (omega arith)) (laid_net R N L) (net_puts N (D 0 (omega arith)) p L q)
  nets-put (N ∷ nets) D (suc k) l p L q =
      nets-put nets (λ j m. D (suc j) (omega arith)) k (omega arith) p (laid_net R N L) (net-long N (D 0 (omega arith)) L q)

  pub repeaters_stand : (nets : List Net) → ((k : ℕ) → k < length nets → AllDirected R (net_in nets k)) → (k : ℕ) → k < length nets → PutsRepeater (net_in nets k) v
      → (L : Laid) → Long (volume R) L → StandsDirected (along (laid_net R) nets L) v
  repeaters_stand nets D k l p L q = (nets-put nets D k l p L q).stands
