-- Laws of where nets meet and of whose the cells are: what is known of the nets laid so far, and that one net more keeps it.
use Rattle.std.specs.Prelude.{◌≡◌, refl, ◌≢◌, Bool, true, false, not, ◌&&◌, ℕ, zero, suc, ◌+◌, ◌≤◌, ◌<◌, eqb, Option, Some, None}
use Rattle.std.proofs.Common.{sym, ap, subst, ◌∙◌, arith, ne_eqb}
use mathlib.Core.List.{List, [], ◌∷◌, ◌++◌, append-nil}
use Rattle.std.proofs.Math.ListN.{length, get_or, length-append, get_or-append, get_or-eq_default}
use Rattle.std.proofs.lemmas.List.{length-replicate, get_or-replicate, get_or_at}
use Rattle.std.proofs.Math.Seq.{append_snoc}
use Rattle.std.proofs.lemmas.Bool.{eqb-false, not-true}
use Rattle.basics.specs.Tests.{either, ask, ask_same, ask_less, never, and_left, and_right}
use Rattle.room.specs.declared.Room.{Room}
use Rattle.room.specs.Room.{volume, in_or_out, or_else, first_below}
use Rattle.room.specs.RoomLaws.{inside-passed}
use Rattle.room.specs.PlaceLaws.{first-passed, none_first}
use Rattle.routing_resources.specs.Marks.{is_marked, with_byte, no_marks}
use Rattle.routing_resources.specs.MarkLaws.{with_length_lem, with_at}
use Rattle.laying.specs.Laying.{Net, owned_by, overlap_of}
use Rattle.laid_nets.specs.declared.Meeting.{Meeting}
use Rattle.laid_nets.specs.LaidNets.{LaidNets, met_after, owners_after, with_net, laid_nets}
use Rattle.net_list_claims.specs.Statements.{no_net, net_in, Occupies, Meets, Apart, FirstMeeting}

-- ---- marks, and the first number that passes a test

-- no test fails and passes
pub clash : {X : Type 0} {b : Bool} → b ≡ false → b ≡ true → X
clash f t = never (cc)

-- a marked cell is one that has a mark
pub marked-below : (marks : List ℕ) (v : ℕ) → is_marked marks v ≡ true → v < length marks
marked-below marks v t =
    ask_less v (length marks) (λ h. h)
    (λ h. let z : get_or marks v 0 ≡ 0 = get_or-eq_default marks 0 {n = v} h in never (cc (rw z at t)))

-- no lower one passes
first-lower : (test : ℕ → Bool) (n v : ℕ) → first_below n test ≡ Some v → (u : ℕ) → u < v → test u ≡ false
unfolding first_below
first-lower test zero v e u h = never (cc)
first-lower test (suc n) v e u h = go (first_below n test) refl e (first-lower test n)
  where
    go : (place : Option ℕ) → first_below n test ≡ place → or_else place (in_or_out (test n) n) ≡ Some v
        → ((w : ℕ) → first_below n test ≡ Some w → (x : ℕ) → x < w → test x ≡ false) → test u ≡ false
    go (Some w) q f lower = lower v (q ∙ f) u h
    go None q f lower = none_first test n q u (omega (arith, (inside-passed (test n) n v f).0))

-- ---- nets with one more behind

abbrev pub with_last : List Net → Net → List Net
with_last nets N = nets ++ (N ∷ [])

module _ (nets : List Net) (N : Net) where
  old-net : (k : ℕ) → k < length nets → net_in (with_last nets N) k ≡ net_in nets k
  old-net k h = get_or-append nets (N ∷ []) no_net k h

  new-net : net_in (with_last nets N) (length nets) ≡ N
  new-net = get_or_at nets N [] no_net (length nets) refl

  -- what one net of those before occupies
  old_occupies : (k v : ℕ) → k < length nets → Occupies (with_last nets N) k v → Occupies nets k v
  old_occupies k v h = subst (λ M. is_marked M.occupied v ≡ true) (old-net k h)

  occupies_old : (k v : ℕ) → k < length nets → Occupies nets k v → Occupies (with_last nets N) k v
  occupies_old k v h = subst (λ M. is_marked M.occupied v ≡ true) (sym (old-net k h))

  old-meets : (k v : ℕ) → k < length nets → Meets (with_last nets N) k v → Meets nets k v
  old-meets k v h M = record { own = old_occupies k v h M.own; lower = M.lower; before = M.before; too = old_occupies M.lower v (omega (arith, M.before)) M.too }

  meets-old : (k v : ℕ) → k < length nets → Meets nets k v → Meets (with_last nets N) k v
  meets-old k v h M = record { own = occupies_old k v h M.own; lower = M.lower; before = M.before; too = occupies_old M.lower v (omega (arith, M.before)) M.too }

  apart-old : (n : ℕ) → n ≤ length nets → Apart nets n → Apart (with_last nets N) n
  apart-old n h A = record { none = λ k v l M. A.none k v l (old-meets k v (omega arith) M) }

  first-old : (k v : ℕ) → FirstMeeting nets k v → FirstMeeting (with_last nets N) k v
  first-old k v F = record {
    net = omega (arith, F.net, length-append nets (N ∷ []));
    meets = meets-old k v F.net F.meets;
    least = λ u l M. F.least u l (old-meets k u F.net M);
    first = apart-old k (omega (arith, F.net)) F.first;
  }

-- ---- the nets laid so far

-- whose a cell is: nobody's, or that of a net that occupies it
pub data Whose (nets : List Net) (owners : List ℕ) (v : ℕ) : Type 0 where
  nobody's : get_or owners v 0 ≡ 0 → ((k : ℕ) → k < length nets → is_marked (net_in nets k).occupied v ≡ false) → Whose nets owners v
  its_own : (k : ℕ) → k < length nets → Occupies nets k v → get_or owners v 0 ≡ k + 1 → Whose nets owners v

pub record Owned (R : Room) (nets : List Net) (owners : List ℕ) : Type 0 where
  pub apart : Apart nets (length nets)
  pub long : length owners ≡ volume R
  pub whose : (v : ℕ) → v < volume R → Whose nets owners v

abbrev pub Standing : Room → List Net → List ℕ → Option Meeting → Type 0
Standing R nets owners None = Owned R nets owners
Standing R nets owners (Some met) = FirstMeeting nets met.net met.cell

-- ---- one net more

module _ (R : Room) (nets : List Net) (owners : List ℕ) (S : Owned R nets owners) (N : Net) (long : length N.occupied ≡ volume R) where
  abbrev test : ℕ → Bool
  test v = is_marked N.occupied v && not (eqb (get_or owners v 0) 0)

  -- it meets a net before it exactly where the cell is somebody's
  meets-passes : (v : ℕ) → Meets (with_last nets N) (length nets) v → test v ≡ true
  meets-passes v M = go (S.whose v (omega (arith, marked-below N.occupied v own, long)))
    where
      own : is_marked N.occupied v ≡ true
      own = subst (λ L. is_marked L.occupied v ≡ true) (new-net nets N) M.own

      go : Whose nets owners v → test v ≡ true
      go (nobody's z none) = clash (none M.lower M.before) (old_occupies nets N M.lower v M.before M.too)
      go (its_own k h o e) = rw (own, ne_eqb (get_or owners v 0) 0 (λ z. omega (arith, e, z)))

  passes-meets : (v : ℕ) → v < volume R → test v ≡ true → Meets (with_last nets N) (length nets) v
  passes-meets v h t = go (S.whose v h)
    where
      own : is_marked N.occupied v ≡ true
      own = and_left _ _ t

      some : get_or owners v 0 ≢ 0
      some = eqb-false _ 0 (not-true _ (and_right (is_marked N.occupied v) _ t))

      go : Whose nets owners v → Meets (with_last nets N) (length nets) v
      go (nobody's z none) = absurd (some z)
      go (its_own k l o e) = record { own = subst (λ L. is_marked L.occupied v ≡ true) (sym (new-net nets N)) own; lower = k; before = l; too = occupies_old nets N k v l o }

  -- the first cell that passes is where it meets one
  met-first : (v : ℕ) → overlap_of N.occupied owners ≡ Some v → FirstMeeting (with_last nets N) (length nets) v
  unfolding overlap_of
  met-first v e =
      let p = first-passed test (length N.occupied) v e in
      record {
        net = omega (arith, length-append nets (N ∷ []));
        meets = passes-meets v (omega (arith, p.0, long)) p.1;
        least = λ u l M. let f = first-lower test (length N.occupied) v e u l in clash f (meets-passes u M);
        first = apart-old nets N (length nets) (omega arith) S.apart;
      }

  module _ (e : overlap_of N.occupied owners ≡ None) where
    none_passes : (v : ℕ) → v < volume R → test v ≡ false
    unfolding overlap_of
    none_passes v h = none_first test (length N.occupied) e v (omega arith)

    still-apart : Apart (with_last nets N) (length (with_last nets N))
    still-apart = record {
      none = λ k v h M.
          ask_same k (length nets)
          (λ q. let here : Meets (with_last nets N) (length nets) v = subst (λ j. Meets (with_last nets N) j v) q M in
          let own : is_marked N.occupied v ≡ true = subst (λ L. is_marked L.occupied v ≡ true) (new-net nets N) here.own in
          let f = none_passes v (omega (arith, marked-below N.occupied v own, long)) in clash f (meets-passes v here))
          (λ d. let b : k < length nets = omega (arith, d, length-append nets (N ∷ [])) in S.apart.none k v b (old-meets nets N k v b M));
    }

    owner_now : (v : ℕ) → v < volume R → Whose (with_last nets N) (owned_by (length nets) N.occupied owners) v
    unfolding owned_by
    owner_now v h =
        ask (is_marked N.occupied v)
        (λ t. its_own (length nets) (omega (arith, length-append nets (N ∷ []))) (subst (λ L. is_marked L.occupied v ≡ true) (sym (new-net nets N)) t) (byte ∙ rw t))
        (λ f. go f (S.whose v h))
      where
        byte : get_or (with_byte (length nets + 1) (is_marked N.occupied) owners) v 0 ≡ either (is_marked N.occupied v) (length nets + 1) (get_or owners v 0)
        byte = with_at (length nets + 1) (is_marked N.occupied) owners v (omega (arith, S.long))

        go : is_marked N.occupied v ≡ false → Whose nets owners v → Whose (with_last nets N) (with_byte (length nets + 1) (is_marked N.occupied) owners) v
        go f (nobody's z none) = nobody's (byte ∙ rw f z)
            (λ k l. ask_same k (length nets)
            (λ q. ap (λ j. is_marked (net_in (with_last nets N) j).occupied v) q ∙ ap (λ L. is_marked L.occupied v) (new-net nets N) ∙ f)
            (λ d. let b : k < length nets = omega (arith, d, length-append nets (N ∷ [])) in ap (λ L. is_marked L.occupied v) (old-net nets N k b) ∙ none k b))
        go f (its_own k l o z) = its_own k (omega (arith, length-append nets (N ∷ []))) (occupies_old nets N k v l o) (byte ∙ rw f z)

    owned-more : Owned R (with_last nets N) (owned_by (length nets) N.occupied owners)
    unfolding owned_by
    owned-more = record { apart = still-apart; long = with_length_lem (length nets + 1) (is_marked N.occupied) owners ∙ S.long; whose = owner_now }

module _ (R : Room) where
  -- net k laid behind those so far
  after : (nets : List Net) (owners : List ℕ) (met : Option Meeting) (N : Net) → length N.occupied ≡ volume R → Standing R nets owners met
      → (overlap : Option ℕ) → overlap_of N.occupied owners ≡ overlap
      → Standing R (with_last nets N) (owners_after (met_after met (length nets) overlap) (length nets) N.occupied owners) (met_after met (length nets) overlap)
  after nets owners (Some met) N l S overlap e = first-old nets N met.net met.cell S
  after nets owners None N l S (Some v) e = met-first R nets owners S N l v e
  after nets owners None N l S None e = owned-more R nets owners S N l e

  -- all of them
  pub all-standing : (more nets : List Net) (S : LaidNets) → ((k : ℕ) → k < length more → length (net_in more k).occupied ≡ volume R) → Standing R nets S.owners S.met
      → Standing R (nets ++ more) (laid_nets R (length nets) more S).owners (laid_nets R (length nets) more S).met
  unfolding laid_nets with_net
  all-standing [] nets S l T = rw (append-nil nets) T
  all-standing (N ∷ more) nets S l T =
      let number : length (with_last nets N) ≡ length nets + 1 = length-append nets (N ∷ []) in
      let U = all-standing more (with_last nets N) (with_net R (length nets) N S) (λ k h. l (suc k) (omega arith)) (after nets S.owners S.met N (l 0 (omega arith)) T _ refl) in
      rw (number, append_snoc nets N more) at U

  pub none-standing : Standing R [] (no_marks (volume R)) None
  none-standing = record {
    apart = record { none = λ k v h M. absurd (omega arith) };
    long = length-replicate {A = ℕ} (volume R) 0;
    whose = λ v h. nobody's (get_or-replicate {A = ℕ} (volume R) v 0 0 h) (λ k l. absurd (omega arith));
  }
