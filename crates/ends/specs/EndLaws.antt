-- Laws of the ends: how the loops over them go, and that a net's cells are in the room.
use Rattle.std.specs.Prelude.{◌≡◌, refl, ◌≢◌, true, false, ℕ, zero, suc, ◌+◌, ◌-◌, ◌≤◌, ◌<◌, eqb, get_or, take, set, replicate, Option, Some, None, Result, Ok, Err}
use Rattle.std.proofs.Common.{sym, ◌∙◌, add-one, arith, get_or-take, take-suc, length-take-le}
use Rattle.std.proofs.Math.Path.{ap}
use mathlib.Core.List.{List, [], ◌∷◌, ◌++◌, map, map-append}
use Rattle.std.proofs.Math.ListN.{length, drop, get_or-append}
use Rattle.std.proofs.lemmas.List.{length-map}
use Rattle.std.proofs.Math.Seq.{slice-cons, slice_empty}
use Rattle.numbers.specs.Refusals.{buffer_number, end_outside_number}
use Rattle.basics.specs.Tests.{ask, never}
use Rattle.basics.specs.Padding.{padded_long, padded_next}
use Rattle.room.specs.declared.Room.{Room}
use Rattle.room.specs.Room.{Within, volume}
use Rattle.room.specs.Units.{wire}
use Rattle.port_realization.specs.declared.EndFault.{EndFault}
use Rattle.port_realization.specs.declared.Realized.{Realized}
use Rattle.port_realization.specs.Ports.{terminal_of}
use Rattle.port_realization.specs.PortLaws.{terminal_in_lem, sink-inside}
use Rattle.job_sheet.specs.declared.Endpoint.{Endpoint}
use Rattle.job_sheet.specs.declared.Sink.{Sink}
use Rattle.job_sheet.specs.declared.Sinks.{Sinks}
use Rattle.job_sheet.specs.Sheet.{max_sinks, no_sink}
use Rattle.job_sheet.specs.Accepted.{SinkList}
use Rattle.ends.specs.declared.Tap.{Tap}
use Rattle.ends.specs.declared.Taps.{Taps}
use Rattle.ends.specs.declared.Fault.{Fault}
use Rattle.ends.specs.declared.Ends.{Ends}
use Rattle.ends.specs.declared.Unrealized.{Unrealized}
use Rattle.ends.specs.Ends.{sinks_in, source_end, sink_end, due_for, is_due, first_due, ends_at, no_tap, tap_of, taps_of, tap_from, without_approach, terminal_in, fault_number, fault_by, fault_of, ends_of, unless, realized_ends, taps_in, TapsInside, NetInside}

module _ {R : Room} {k : Sinks} (S : SinkList R k) where
  pub sinks-long : length (sinks_in k) ≡ k.count
  sinks-long = length-take-le k.count k.ends (omega (arith, S.few, S.whole))

  -- the sinks from the i-th on
  from-sink : (i : ℕ) → i < k.count → drop i (sinks_in k) ≡ get_or k.ends i no_sink ∷ drop (i + 1) (sinks_in k)
  from-sink i h = rw add-one (slice-cons i k.count k.ends no_sink h (omega (arith, S.few, S.whole)))

-- ---- the first end for which a number is due

pub is-due : (due : EndFault) (o : Option EndFault) → o ≡ Some due → is_due due o ≡ true
is-due EndFault.NoFacing o e = rw e
is-due EndFault.Outside o e = rw e

pub not-due : (due : EndFault) (o : Option EndFault) → o ≢ Some due → is_due due o ≡ false
not-due due None n = refl
not-due EndFault.NoFacing (Some EndFault.NoFacing) n = absurd (n refl)
not-due EndFault.NoFacing (Some EndFault.Outside) n = refl
not-due EndFault.Outside (Some EndFault.NoFacing) n = refl
not-due EndFault.Outside (Some EndFault.Outside) n = absurd (n refl)

pub other-due : (due : EndFault) (o : Option EndFault) → is_due due o ≡ false → o ≢ Some due
other-due due o f e = never (cc (is-due due o e))

-- that is due for none of the first i sinks
pub record NoneDue (R : Room) (due : EndFault) (k : Sinks) (i : ℕ) : Type 0 where
  pub same : first_due due (i + 1) (map (sink_end R) (drop i (sinks_in k))) ≡ first_due due 1 (map (sink_end R) (sinks_in k))
  pub so_far : i ≤ k.count

pub none_passed : (R : Room) (due : EndFault) (k : Sinks) → NoneDue R due k 0
none_passed R due k = record { same = refl; so_far = omega arith }

module _ (R : Room) (due : EndFault) (source : Endpoint) {k : Sinks} (S : SinkList R k) where
  pub due-source : due_for (source_end R source) ≡ Some due → Some 0 ≡ first_due due 0 (ends_at R source (sinks_in k))
  unfolding first_due
  due-source e = rw (is-due _ _ e)

  -- it is not due for the source
  module _ (n : due_for (source_end R source) ≢ Some due) {i : ℕ} (P : NoneDue R due k i) where
    pub due-sink : i < k.count → due_for (sink_end R (get_or k.ends i no_sink)) ≡ Some due → Some (i + 1) ≡ first_due due 0 (ends_at R source (sinks_in k))
    unfolding first_due
    due-sink h e = let p = P.same in rw (not-due _ _ n, ← p, from-sink S i h, is-due _ _ e)

    pub due-none : k.count ≤ i → None ≡ first_due due 0 (ends_at R source (sinks_in k))
    unfolding first_due
    due-none h =
        let p = P.same in
        let none : drop i (sinks_in k) ≡ [] = let e : i ≡ k.count = omega (arith, P.so_far) in rw e (slice_empty k.count k.ends) in
        rw (not-due _ _ n, ← p, none)

pub sink-passed : {R : Room} {due : EndFault} {k : Sinks} → SinkList R k → {i : ℕ} → NoneDue R due k i → i < k.count
    → (due_for (sink_end R (get_or k.ends i no_sink)) ≢ Some due) → NoneDue R due k (i + 1)
unfolding first_due
sink-passed {R = R} {due = due} {k = k} S {i = i} P h n = record { same = step ∙ P.same; so_far = omega arith }
  where
    step : first_due due (i + 1 + 1) (map (sink_end R) (drop (i + 1) (sinks_in k))) ≡ first_due due (i + 1) (map (sink_end R) (drop i (sinks_in k)))
    step = rw (from-sink S i h, not-due _ _ n, add-one (i + 1))

-- ---- the taps gathered so far

pub record Tapped (R : Room) (k : Sinks) (taps : List Tap) (i : ℕ) : Type 0 where
  pub same : taps ≡ map (tap_of R) (take i k.ends) ++ replicate (max_sinks - i) no_tap
  pub so_far : i ≤ k.count

module _ {R : Room} {k : Sinks} (S : SinkList R k) {taps : List Tap} {i : ℕ} (T : Tapped R k taps i) where
  pub tap-on : i < k.count → (t : Tap) → t ≡ tap_of R (get_or k.ends i no_sink) → Tapped R k (set taps i t) (i + 1)
  tap-on h t e =
      let p = map (tap_of R) (take i k.ends) in
      let n : length p ≡ i = length-map (take i k.ends) (tap_of R) ∙ length-take-le i k.ends (omega (arith, S.few, S.whole)) in
      let m : map (tap_of R) (take (i + 1) k.ends) ≡ p ++ (t ∷ []) =
      rw (add-one i, e) (ap (map (tap_of R)) (take-suc k.ends i no_sink (omega (arith, S.few, S.whole))) ∙ map-append (tap_of R) (take i k.ends) (get_or k.ends i no_sink ∷ [])) in
      record {
        same =
            ap (λ x. set x i t) T.same
            ∙ padded_next p max_sinks i no_tap n (omega (arith, S.few)) t
            ∙ ap (λ x. x ++ replicate (max_sinks - (i + 1)) no_tap) (sym m);
        so_far = omega arith;
      }

  pub tap-done : k.count ≤ i → ◌≡◌ {A = Taps} (record { count = k.count; taps = taps }) (taps_of R (sinks_in k))
  tap-done h =
      let e : i ≡ k.count = omega (arith, T.so_far) in
      let n = sinks-long S in
      let f : taps ≡ map (tap_of R) (sinks_in k) ++ replicate (max_sinks - length (sinks_in k)) no_tap = rw n (rw e at T.same) in
      let n' = sym n in
      λ j. record { count = n' j; taps = f j }

-- ---- all of 8, all of 9

-- each is above 6, and at most 9
pub fault-late : (e : EndFault) → (buffer_number < fault_number e) × (fault_number e ≤ end_outside_number)
fault-late EndFault.NoFacing = (omega arith, omega arith)
fault-late EndFault.Outside = (omega arith, omega arith)

module _ (R : Room) (source : Endpoint) (sinks : List Sink) where
  pub fault_facing : {place : ℕ} → Some place ≡ first_due EndFault.NoFacing 0 (ends_at R source sinks) → Some (record { due = EndFault.NoFacing; place = place }) ≡ fault_of R source sinks
  unfolding fault_of
  fault_facing e = ap (λ x. fault_by x (first_due EndFault.Outside 0 (ends_at R source sinks))) e

  module _ (e : None ≡ first_due EndFault.NoFacing 0 (ends_at R source sinks)) where
    pub fault_outside : {place : ℕ} → Some place ≡ first_due EndFault.Outside 0 (ends_at R source sinks) → Some (record { due = EndFault.Outside; place = place }) ≡ fault_of R source sinks
    unfolding fault_of
    fault_outside f = ap (fault_by None) f ∙ ap (λ x. fault_by x (first_due EndFault.Outside 0 (ends_at R source sinks))) e

    pub fault_none : None ≡ first_due EndFault.Outside 0 (ends_at R source sinks) → None ≡ fault_of R source sinks
    unfolding fault_of
    fault_none f = ap (fault_by None) f ∙ ap (λ x. fault_by x (first_due EndFault.Outside 0 (ends_at R source sinks))) e

pub ends_is : (R : Room) (e : Endpoint) (es : List Sink) {t : ℕ} {k : Taps}
    → t ≡ terminal_in (source_end R e) → k ≡ taps_of R es → ◌≡◌ {A = Ends} (record { source = t; taps = k }) (ends_of R e es)
unfolding ends_of
ends_is R e es q r = λ i. record { source = q i; taps = r i }

module _ (R : Room) (e : Endpoint) (es : List Sink) where
  -- where no number is due, `realize_ends` gives the ends
  pub ends_realized : fault_of R e es ≡ None → {r : Result Ends Unrealized} → r ≡ realized_ends R e es → r ≡ Ok (ends_of R e es)
  ends_realized f is = is ∙ ap (λ x. unless x (ends_of R e es)) f

  pub realized-good : {f : Option Fault} → f ≡ fault_of R e es → f ≡ None → {E : Ends} → E ≡ ends_of R e es → Ok E ≡ realized_ends R e es
  realized-good p n q = ap Ok q ∙ ap (λ x. unless x (ends_of R e es)) (sym n ∙ p)

  pub realized-fault : {f : Option Fault} → f ≡ fault_of R e es → {x : Fault} → f ≡ Some x → {E : Ends} → E ≡ ends_of R e es
      → Err (record { fault = x; ends = E }) ≡ realized_ends R e es
  realized-fault p n {E} q = ap (λ y. unless y E) (sym n ∙ p) ∙ ap (unless (fault_of R e es)) q

-- what its answer tells: the ends, and no number is due, or what is wrong, and the ends that are good
told_ends : (f : Option Fault) (E : Ends) {e : Ends} → Ok e ≡ unless f E → (f ≡ None) × (e ≡ E)
told_ends None E q = (refl, cc)
told_ends (Some x) E q = never (cc)

told_fault : (f : Option Fault) (E : Ends) {x : Unrealized} → Err x ≡ unless f E → (f ≡ Some x.fault) × (x.ends ≡ E)
told_fault None E q = never (cc)
told_fault (Some y) E {x} q = let same : x ≡ record { fault = y; ends = E } = cc in (ap (λ z. Some z.fault) (sym same), ap (λ z. z.ends) same)

module _ (R : Room) (e : Endpoint) (es : List Sink) {r : Result Ends Unrealized} (is : r ≡ realized_ends R e es) where
  pub ends-told : {E : Ends} → r ≡ Ok E → (fault_of R e es ≡ None) × (E ≡ ends_of R e es)
  ends-told q = told_ends _ _ (sym q ∙ is)

  pub fault-told : {x : Unrealized} → r ≡ Err x → (fault_of R e es ≡ Some x.fault) × (x.ends ≡ ends_of R e es)
  fault-told q = told_fault _ _ (sym q ∙ is)

-- ---- a net whose ends no number refuses

-- the taps in use are as many as are counted
pub taps-long : {R : Room} {k : Taps} → TapsInside R k → length (taps_in k) ≡ k.count
taps-long {k = k} T = length-take-le k.count k.taps (omega (arith, T.few, T.whole))

pub tap-is : (k : Taps) (i : ℕ) → i < k.count → get_or k.taps i no_tap ≡ get_or (taps_in k) i no_tap
tap-is k i h = sym (get_or-take k.count k.taps i no_tap h)

-- what is due for none of the ends is not due for any of them
none-due : (due : EndFault) (place : ℕ) (rs : List (Result Realized EndFault)) → first_due due place rs ≡ None → (i : ℕ) → i < length rs → (d : Result Realized EndFault) → due_for (get_or rs i d) ≢ Some due
unfolding first_due
none-due due place [] e i h d = absurd (omega arith)
none-due due place (r ∷ rs) e zero h d = ask (is_due due (due_for r)) (λ t. never (cc (rw t at e))) (λ f. other-due _ _ f)
none-due due place (r ∷ rs) e (suc i) h d =
    ask (is_due due (due_for r)) (λ t. never (cc (rw t at e))) (λ f. none-due due (suc place) rs (rw f at e) i (omega arith) d)

pub by-good : (n m : Option ℕ) → fault_by n m ≡ None → (n ≡ None) × (m ≡ None)
by-good None None e = (refl, refl)
by-good None (Some place) e = never (cc)
by-good (Some place) m e = never (cc)

-- neither is due for an end
abbrev pub NoneFor : Result Realized EndFault → Type 0
NoneFor r = (due : EndFault) → due_for r ≢ Some due

pub none_for : (r : Result Realized EndFault) → (due_for r ≢ Some EndFault.NoFacing) → (due_for r ≢ Some EndFault.Outside) → NoneFor r
none_for r n m EndFault.NoFacing = n
none_for r n m EndFault.Outside = m

source-inside : (R : Room) (e : Endpoint) → Within R e.at → NoneFor (source_end R e) → terminal_in (source_end R e) < volume R
unfolding source_end
source-inside R e w n = go (terminal_of R e.at e.port e.facing) refl n
  where
    go : (t : Result ℕ EndFault) → terminal_of R e.at e.port e.facing ≡ t → NoneFor (without_approach t) → terminal_in (without_approach t) < volume R
    go (Ok cell) q a = terminal_in_lem R e.at w e.port e.facing cell q
    go (Err fault) q a = absurd (a fault refl)

-- where no number is due for any end, the source's terminal is in the room
pub source_in_room : {R : Room} (source : Endpoint) → Within R source.at → (sinks : List Sink) → fault_of R source sinks ≡ None → terminal_in (source_end R source) < volume R
unfolding fault_of
source_in_room {R} source w sinks good =
    let z = by-good _ _ good in
    let d : Result Realized EndFault = Err EndFault.Outside in
    source-inside R source w
    (none_for _ (none-due EndFault.NoFacing 0 (ends_at R source sinks) z.0 0 (omega arith) d) (none-due EndFault.Outside 0 (ends_at R source sinks) z.1 0 (omega arith) d))

tap-inside : (R : Room) (k : Sink) → Within R k.end.at → NoneFor (sink_end R k)
    → ((tap_of R k).terminal < volume R) × ((tap_of R k).approach < volume R)
unfolding tap_of sink_end
tap-inside R k w n = go (sink_end R k) refl n
  where
    go : (r : Result Realized EndFault) → sink_end R k ≡ r → NoneFor r
        → ((tap_from (eqb k.end.port wire) k.tail r).terminal < volume R) × ((tap_from (eqb k.end.port wire) k.tail r).approach < volume R)
    go (Ok r) q x = let E = sink-inside R k.end.at w k.end.port k.end.facing r.terminal r.approach q in (E.terminal_below, E.approach_below)
    go (Err fault) q x = absurd (x fault refl)

mapped_at : {X Y : Type 0} (f : X → Y) (xs : List X) (i : ℕ) (d : X) (e : Y) → i < length xs → get_or (map f xs) i e ≡ f (get_or xs i d)
mapped_at f [] i d e h = absurd (omega arith)
mapped_at f (x ∷ xs) zero d e h = refl
mapped_at f (x ∷ xs) (suc i) d e h = mapped_at f xs i d e (omega arith)

-- each sink's tap stands at its place
module _ {R : Room} {k : Sinks} (S : SinkList R k) where
  pub tap-at : (i : ℕ) → i < k.count → get_or (taps_of R (sinks_in k)).taps i no_tap ≡ tap_of R (get_or k.ends i no_sink)
  tap-at i h =
      let l = sinks_in k in
      let b : i < length l = omega (arith, sinks-long S) in
      let m = length-map l (tap_of R) in
      get_or-append (map (tap_of R) l) (replicate (max_sinks - length l) no_tap) no_tap i (omega (arith, m))
      ∙ mapped_at (tap_of R) l i no_sink no_tap b
      ∙ ap (tap_of R) (get_or-take k.count k.ends i no_sink h)

module _ {R : Room} (source : Endpoint) {k : Sinks} (w : Within R source.at) (S : SinkList R k) (good : fault_of R source (sinks_in k) ≡ None) where
  none : (due : EndFault) → first_due due 0 (ends_at R source (sinks_in k)) ≡ None → (i : ℕ) → i < k.count → due_for (sink_end R (get_or k.ends i no_sink)) ≢ Some due
  none due e i h q =
      let l = sinks_in k in
      let b : i < length l = omega (arith, sinks-long S) in
      let a : get_or l i no_sink ≡ get_or k.ends i no_sink = get_or-take k.count k.ends i no_sink h in
      let m = length-map l (sink_end R) in
      none-due due 0 (ends_at R source l) e (suc i) (omega (arith, m)) (Err EndFault.Outside)
      (ap due_for (mapped_at (sink_end R) l i no_sink (Err EndFault.Outside) b ∙ ap (sink_end R) a) ∙ q)

  pub net_in : NetInside R (terminal_in (source_end R source)) (taps_of R (sinks_in k))
  unfolding fault_of
  net_in =
      let l = sinks_in k in
      let n = sinks-long S in
      let z = by-good _ _ good in
      let inside : (i : ℕ) → i < length l → ((tap_of R (get_or k.ends i no_sink)).terminal < volume R) × ((tap_of R (get_or k.ends i no_sink)).approach < volume R) =
      λ i h. tap-inside R _ (S.within i (omega (arith, n))) (none_for _ (none EndFault.NoFacing z.0 i (omega (arith, n))) (none EndFault.Outside z.1 i (omega (arith, n)))) in
      record {
        source_in = source_in_room source w l good;
        taps_in_lem = record {
          few = omega (arith, n, S.few);
          whole = padded_long (map (tap_of R) l) max_sinks (length l) no_tap (length-map l (tap_of R)) (omega (arith, n, S.few));
          terminal_in_lem = λ i h. rw (tap-at S i (omega (arith, n))) (inside i h).0;
          approach_in = λ i h. rw (tap-at S i (omega (arith, n))) (inside i h).1;
        };
      }
