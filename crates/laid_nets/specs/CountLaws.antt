-- While no two nets meet, each owns a cell at least, its source's terminal: so there are no more of them than cells, and a net's number has place in 32 bits.
use Rattle.std.specs.Prelude.{◌≡◌, Bool, true, false, not, ◌&&◌, List, ℕ, ◌+◌, ◌*◌, ◌≤◌, ◌<◌, ◌^◌, eqb, Option, Some, None}
use Rattle.std.proofs.Math.Path.{refl}
use Rattle.std.proofs.Common.{sym, ap, ◌∙◌, arith}
use Rattle.std.proofs.Math.ListN.{length, get_or, get_or-eq_default}
use Rattle.std.proofs.lemmas.List.{length-replicate}
use borrow.Author.Tests.{ne_eqb}
use Rattle.basics.specs.Tests.{ask, ask_less, never}
use Rattle.basics.specs.Counts.{bit, bit-small}
use Rattle.basics.specs.Sums.{sum_below, sum_less, sum_same}
use Rattle.room.specs.declared.Room.{Room}
use Rattle.room.specs.Room.{Good, volume}
use Rattle.room.specs.PlaceLaws.{none_first}
use Rattle.routing_resources.specs.Marks.{is_marked, with_byte, no_marks}
use Rattle.routing_resources.specs.MarkLaws.{with_length_lem, with_at}
use Rattle.laying.specs.Laying.{Net, owned_by, overlap_of}
use Rattle.laid_nets.specs.declared.Meeting.{Meeting}
use Rattle.laid_nets.specs.LaidNets.{LaidNets, met_after, owners_after, with_net}

-- a cell is somebody's
abbrev pub is_owned : List ℕ → ℕ → Bool
is_owned owners v = not (eqb (get_or owners v 0) 0)

-- how many are
abbrev pub owned_cells : List ℕ → ℕ
owned_cells owners = sum_below (length owners) (λ v. bit (is_owned owners v))

-- k nets are laid, and own a cell each while none has met another
pub record Counted (R : Room) (k : ℕ) (S : LaidNets) : Type 0 where
  pub long : length S.owners ≡ volume R
  pub many : S.met ≡ None → k ≤ owned_cells S.owners

pub counted_none : (R : Room) {S : LaidNets} → S.owners ≡ no_marks (volume R) → Counted R 0 S
counted_none R e = record { long = ap length e ∙ length-replicate {A = ℕ} (volume R) 0; many = λ h. omega arith }

-- where no cell meets, the cell that a net occupies is nobody's
unowned : (occupied owners : List ℕ) → overlap_of occupied owners ≡ None → (v : ℕ) → v < length occupied → is_marked occupied v ≡ true → is_owned owners v ≡ false
unfolding overlap_of
unowned occupied owners e v h m = rw m at (none_first (λ u. is_marked occupied u && is_owned owners u) (length occupied) e v h)

-- no two nets have met so far, nor does this one meet another
met-nowhere : (met : Option Meeting) (k : ℕ) (n : Option ℕ) → met_after met k n ≡ None → (met ≡ None) × (n ≡ None)
met-nowhere (Some earlier) k n e = never (cc)
met-nowhere None k (Some cell) e = never (cc)
met-nowhere None k None e = (refl, refl)

bit_up : (a b : Bool) → (a ≡ true → b ≡ true) → bit a ≤ bit b
bit_up true b f = rw (f refl) (omega arith)
bit_up false b f = omega arith

-- a net that occupies a cell, and its marks
module _ (R : Room) (good : Good R) {k : ℕ} {S : LaidNets} (C : Counted R k S) (occupied : List ℕ) (long : length occupied ≡ volume R) (source : ℕ) (inside : source < volume R)
    (marked : is_marked occupied source ≡ true) where
  abbrev met : Option Meeting
  met = met_after S.met k (overlap_of occupied S.owners)

  module _ (nowhere : met ≡ None) where
    free : is_owned S.owners source ≡ false
    free = unowned occupied S.owners (met-nowhere S.met k _ nowhere).1 source (omega arith) marked

    -- there is a cell that nobody owns
    pub number_fits : k + 1 < 2 ^ 32
    number_fits =
        let few : owned_cells S.owners < length S.owners * 1 =
        rw (sum_same (length S.owners) 1) at (sum_less (length S.owners) source (λ v. bit (is_owned S.owners v)) (λ x. 1) (omega (arith, C.long)) (λ x. bit-small (is_owned S.owners x)) (rw free (omega arith))) in
        omega (arith, few, C.many (met-nowhere S.met k _ nowhere).0, C.long, good.few)

    owned-still : (v : ℕ) → is_owned S.owners v ≡ true → is_owned (owned_by k occupied S.owners) v ≡ true
    unfolding owned_by
    owned-still v o =
        ask_less v (length S.owners)
        (λ h. ask (is_marked occupied v)
        (λ t. rw (with_at (k + 1) (is_marked occupied) S.owners v h, t, ne_eqb (k + 1) 0 (λ e. omega arith)))
        (λ f. rw (with_at (k + 1) (is_marked occupied) S.owners v h, f) o))
        (λ h. let z : get_or S.owners v 0 ≡ 0 = get_or-eq_default S.owners 0 {n = v} h in never (cc (rw z at o)))

    owned-now : is_owned (owned_by k occupied S.owners) source ≡ true
    unfolding owned_by
    owned-now = rw (with_at (k + 1) (is_marked occupied) S.owners source (omega (arith, C.long)), marked, ne_eqb (k + 1) 0 (λ e. omega arith))

    more : k + 1 ≤ owned_cells (owned_by k occupied S.owners)
    unfolding owned_by
    more =
        let n : length (with_byte (k + 1) (is_marked occupied) S.owners) ≡ length S.owners = with_length_lem (k + 1) (is_marked occupied) S.owners in
        let less : owned_cells S.owners < sum_below (length S.owners) (λ v. bit (is_owned (owned_by k occupied S.owners) v)) =
        sum_less (length S.owners) source (λ v. bit (is_owned S.owners v)) (λ v. bit (is_owned (owned_by k occupied S.owners) v)) (omega (arith, C.long)) (λ v. bit_up (is_owned S.owners v) (is_owned (owned_by k occupied S.owners) v) (owned-still v)) (rw (free, owned-now) (omega arith)) in
        rw n (omega (arith, less, C.many (met-nowhere S.met k _ nowhere).0))

  owners-kept : (m : Option Meeting) → length (owners_after m k occupied S.owners) ≡ volume R
  unfolding owned_by
  owners-kept None = with_length_lem (k + 1) (is_marked occupied) S.owners ∙ C.long
  owners-kept (Some earlier) = C.long

  owners-more : (m : Option Meeting) → m ≡ met → m ≡ None → k + 1 ≤ owned_cells (owners_after m k occupied S.owners)
  owners-more None e n = more (sym e)
  owners-more (Some earlier) e n = never (cc)

  pub counted-more : (N : Net) → N.occupied ≡ occupied → Counted R (k + 1) (with_net R k N S)
  unfolding with_net
  counted-more N e = rw e record { long = owners-kept met; many = λ n. owners-more met refl n }
