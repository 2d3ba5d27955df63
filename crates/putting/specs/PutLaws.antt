-- Laws of putting text: pieces one after another, a loop that puts one after another, and bytes.
use Rattle.std.specs.Prelude.{◌≡◌, refl, List, [], ◌++◌, ℕ, ◌+◌, ◌≤◌, length, take}
use Rattle.std.proofs.Common.{sym, ap, ◌∙◌, append_assoc, append-nil, arith, length-append}
use Rattle.std.proofs.Math.Seq.{paste, take-length}
use Rattle.std.proofs.lemmas.List.Edits.{take-paste}
use Rattle.basics.specs.Copies.{Copied, copied_all}
use Rattle.putting.specs.Putting.{Put, Fits, PutSoFar}

-- ---- pieces one after another

module _ {out : List ℕ} {at : ℕ} {first out' : List ℕ} {end : ℕ} (p : Put out at first out' end) {then : List ℕ} where
  pub both : {out'' : List ℕ} {end' : ℕ} → Put out' end then out'' end' → Put out at (first ++ then) out'' end'
  both q = record {
    ends = omega (arith, length-append first then, p.ends, q.ends);
    front = q.front ∙ ap (λ l. l ++ then) p.front ∙ append_assoc (take at out) first then;
    same = q.same ∙ p.same;
  }

  -- where both fit, there is place for the second
  pub then-fits : Fits out at (first ++ then) → Fits out' end then
  then-fits f = record { place = omega (arith, f.place, length-append first then, p.ends, p.same) }

pub first_fits : {out : List ℕ} {at : ℕ} {first : List ℕ} (then : List ℕ) → Fits out at (first ++ then) → Fits out at first
first_fits {first = first} then f = record { place = omega (arith, f.place, length-append first then) }

-- ---- a loop

pub put-nothing : {out : List ℕ} {at : ℕ} → Put out at [] out at
put-nothing {out} {at} = record { ends = omega arith; front = sym (append-nil (take at out)); same = refl }

module _ {out : List ℕ} {at : ℕ} {whole : List ℕ} where
  pub putting_begun : PutSoFar out at whole whole out at
  putting_begun = record { done = []; put = put-nothing; is = refl }

  pub putting_on : {text left out' out'' : List ℕ} {end end' : ℕ} → PutSoFar out at whole (text ++ left) out' end → Put out' end text out'' end' → PutSoFar out at whole left out'' end'
  putting_on {text} {left} g p = record { done = g.done ++ text; put = both g.put p; is = append_assoc g.done text left ∙ g.is }

  pub putting_done : {out' : List ℕ} {end : ℕ} → PutSoFar out at whole [] out' end → Put out at whole out' end
  putting_done g = rw (sym g.is ∙ append-nil g.done) g.put

  pub putting_fits : {text : List ℕ} (left : List ℕ) {out' : List ℕ} {end : ℕ} → PutSoFar out at whole (text ++ left) out' end → Fits out at whole → Fits out' end text
  putting_fits {text} left g f =
      first_fits left (record { place = omega (arith, f.place, g.put.ends, g.put.same, length-append g.done (text ++ left), ap length g.is) })

-- ---- bytes, once they are all copied

pub copied_put : {out out' : List ℕ} {at : ℕ} {bytes : List ℕ} {i : ℕ} → Fits out at bytes → Copied bytes out at (length bytes) i out' → length bytes ≤ i
    → Put out at bytes out' (at + length bytes)
copied_put {out} {at = at} {bytes} f C h =
    let q : _ ≡ paste out at bytes (length bytes) = copied_all bytes out at (length bytes) (omega arith) (omega (arith, f.place)) C h in
    record {
      ends = refl;
      front = ap (take (at + length bytes)) q ∙ take-paste out at bytes (length bytes) (omega (arith, f.place)) (omega arith) ∙ ap (λ l. take at out ++ l) (take-length bytes);
      same = C.kept;
    }
