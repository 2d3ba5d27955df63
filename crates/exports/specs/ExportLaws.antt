-- The promise of the exported search, by its cases; and that it determines everything.
use Rattle.std.specs.Prelude.{◌≡◌, true, false, List, ◌++◌, ℕ, ◌-◌, ◌≤◌, ◌<◌, min, length, replicate, take, drop}
use Rattle.std.proofs.Common.{sym, ap, ◌∙◌, arith, length-take}
use Rattle.std.proofs.lemmas.List.{take_min}
use Rattle.std.proofs.Math.Nat.{sub-zero}
use borrow.Author.Tests.{le-leb, lt-leb}
use Rattle.basics.specs.Zeros.{drop_zeros}
use Rattle.basics.specs.Promises.{Determines}
use Rattle.lent.specs.Lent.{touches, filled}
use Rattle.routing.specs.Answers.{Answer}
use Rattle.routing.specs.declared.Route.{Route}
use Rattle.routing.specs.Answers.{Input, number_of, detail_of, refusal_number, Promise}
use Rattle.routing.specs.PromiseLaws.{untouched}
use Rattle.exports.specs.Export.{short_refusal, exported, values_with, values_told, Exported}
use Rattle.reply.specs.Replies.{route_of}

-- as many of the values as are lent, written to a cleared buffer
pub front-written : (front : List ℕ) (n count : ℕ) → count ≡ min n (length front)
    → take count front ++ drop count (replicate n 0) ≡ take n front ++ replicate (n - length (take n front)) 0
front-written front n count e = rw (e, take_min n front, drop_zeros (min n (length front)) n, length-take n front)

-- the values of an answer whose number touches memory; the others leave them as they are
module _ (a : Answer) (values : List ℕ) {number : ℕ} (n : number ≡ number_of a) where
  pub values-written : {detail : ℕ} {route : Route} {values' : List ℕ} → touches number ≡ true → detail ≡ detail_of a → route ≡ route_of a
      → values' ≡ filled (take (length values) (values_with detail route)) values → values' ≡ values_told a values
  values-written t d r w = let e = rw n at t in w ∙ rw (d, r, e)

  pub values-kept : touches number ≡ false → values ≡ values_told a values
  values-kept f = let e = rw n at f in rw e

module _ {I : Input} {path known previous classes queue values : List ℕ} where
  -- too few values: nothing is touched
  pub exported-short : length values < 4
      → Exported I path known previous classes queue values (refusal_number (short_refusal I.room I.config)) path known previous classes queue values
  unfolding exported
  exported-short h =
      let e = lt-leb 4 (length values) h in
      let u = untouched (short_refusal I.room I.config) in
      record {
        number = rw e;
        path-is = rw (e, u);
        known_is = rw (e, u);
        previous-is = rw (e, u);
        classes-is = rw (e, u);
        queue-is = rw (e, u);
        values-is = rw (e, u);
      }

  -- the search's answer, told
  pub exported-told : {a : Answer} {r : ℕ} {path' known' previous' classes' queue' values' : List ℕ} → 4 ≤ length values
      → Promise I path known previous classes queue a path' known' previous' classes' queue' → r ≡ number_of a → values' ≡ values_told a values
      → Exported I path known previous classes queue values r path' known' previous' classes' queue' values'
  unfolding exported
  exported-told h P n v =
      let e = le-leb 4 (length values) h in
      record {
        number = rw e (rw P.answer at n);
        path-is = rw e P.path-is;
        known_is = rw e P.known_is;
        previous-is = rw e P.previous-is;
        classes-is = rw e P.classes-is;
        queue-is = rw e P.queue-is;
        values-is = rw e (rw P.answer at v);
      }

-- ---- two results that keep the promise coincide: the number, the values, and every byte of lent memory

pub record Result : Type 0 where
  pub number : ℕ
  pub path : List ℕ
  pub known : List ℕ
  pub previous : List ℕ
  pub classes : List ℕ
  pub queue : List ℕ
  pub values : List ℕ

module _ (I : Input) (path known previous classes queue values : List ℕ) where
  abbrev pub Keeps : Result → Type 0
  Keeps R = Exported I path known previous classes queue values R.number R.path R.known R.previous R.classes R.queue R.values

  pub coincide : Determines Keeps
  coincide x y P Q = λ i. record {
    number = (P.number ∙ sym Q.number) i;
    path = (P.path-is ∙ sym Q.path-is) i;
    known = (P.known_is ∙ sym Q.known_is) i;
    previous = (P.previous-is ∙ sym Q.previous-is) i;
    classes = (P.classes-is ∙ sym Q.classes-is) i;
    queue = (P.queue-is ∙ sym Q.queue-is) i;
    values = (P.values-is ∙ sym Q.values-is) i;
  }
