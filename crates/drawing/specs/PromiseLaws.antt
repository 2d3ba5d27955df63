-- What an input has that neither of the two public functions refuses.
use Rattle.std.specs.Prelude.{◌≡◌, Bool, List, ℕ, eqb, leb, length, get_or, replicate, Ok, Err}
use Rattle.std.proofs.Math.Path.{refl}
use Rattle.std.proofs.Common.{sym, eqb-true, leb-true, ltb-true}
use Rattle.std.proofs.Math.Bool.{true, false}
use Rattle.basics.specs.Tests.{either, never, and_left, and_right}
use Rattle.basics.specs.Lists.{every, every_in, in_at}
use Rattle.basics.specs.Zeros.{zeros-long, cleared-to}
use Rattle.lent.specs.Lent.{touches, Cleared}
use Rattle.room.specs.declared.Room.{Room}
use Rattle.room.specs.Room.{sides_good, volume}
use Rattle.room.specs.RoomLaws.{good}
use Rattle.routing_resources.specs.Marks.{AllCells}
use Rattle.routing.specs.declared.Refusal.{Refusal}
use Rattle.routing.specs.declared.Refusal.TheVariants.{Sides, Config, Buffer, Code, Position}
use Rattle.routing.specs.Answers.{refusal_number}
use Rattle.drawing.specs.Answers.{cell_known, buffers_good, codes_good, judged, list_enough, listed_judged}
use Rattle.drawing.specs.Listing.{Drawable, Listable, AllListed}

-- a refusal touches nothing
pub untouched : (why : Refusal) → touches (refusal_number why) ≡ false
untouched Sides = refl
untouched Config = refl
untouched Buffer = refl
untouched Code = refl
untouched Position = refl

-- ---- what an input has that no number refuses

pub cells-known : (R : Room) (path : List ℕ) → every (cell_known R) path ≡ true → AllCells R path
cells-known R path e = record { below = λ i h. ltb-true _ _ (every_in (cell_known R) path e (get_or path i 0) (in_at path i 0 h)) }

-- all four tests are passed
pub record Passes (R : Room) (enough known : Bool) (kinds path : List ℕ) : Type 0 where
  pub sides : sides_good R ≡ true
  pub buffers : buffers_good R enough kinds ≡ true
  pub codes : codes_good known kinds ≡ true
  pub inside : every (cell_known R) path ≡ true

module _ {R : Room} {enough known : Bool} {kinds path : List ℕ} where
  pub passes : judged R enough known kinds path ≡ Ok tt → Passes R enough known kinds path
  unfolding judged
  passes e = by (sides_good R) (buffers_good R enough kinds) (codes_good known kinds) (every (cell_known R) path) refl refl refl refl e
    where
      by : (a b c d : Bool) → sides_good R ≡ a → buffers_good R enough kinds ≡ b → codes_good known kinds ≡ c → every (cell_known R) path ≡ d
          → either a (either b (either c (either d (Ok (tt {0})) (Err Position)) (Err Code)) (Err Buffer)) (Err Sides) ≡ Ok (tt {0}) → Passes R enough known kinds path
      by true true true true p q r s f = record { sides = p; buffers = q; codes = r; inside = s }
      by true true true false p q r s f = never (cc)
      by true true false d p q r s f = never (cc)
      by true false c d p q r s f = never (cc)
      by false b c d p q r s f = never (cc)

pub drawable : {R : Room} {kinds path : List ℕ} (enough known : Bool) → judged R enough known kinds path ≡ Ok tt → Drawable R kinds path
drawable {R} {kinds} {path} enough known e =
    let P : Passes R enough known kinds path = passes e in
    record { good = good R P.sides; kinds-long = eqb-true _ _ (and_left _ enough P.buffers); path_in = cells-known R path P.inside }

pub listable : {R : Room} {kinds path cells facings : List ℕ} → listed_judged R kinds path cells facings ≡ Ok tt → Listable R kinds path cells facings
unfolding list_enough
listable {R} {kinds} {path} {cells} {facings} e =
    let enough : list_enough path cells facings ≡ true = and_right (eqb (length kinds) (volume R)) _ (passes e).buffers in
    record {
      drawable = drawable (list_enough path cells facings) true e;
      cells-enough = leb-true _ _ (and_left _ (leb (length path) (length facings)) enough);
      facings-enough = leb-true _ _ (and_right (leb (length path) (length cells)) _ enough);
    }

-- the list's slices cleared, it is as long as before
module _ (cells facings : List ℕ) {cells' facings' : List ℕ} (zc : Cleared cells cells') (zf : Cleared facings facings') where
  cells-long : length cells' ≡ length cells
  cells-long = zeros-long zc

  facings-long : length facings' ≡ length facings
  facings-long = zeros-long zf

  pub listable-cleared : {R : Room} {kinds path : List ℕ} → Listable R kinds path cells facings
      → Listable R kinds path cells' facings' × ((cells' ≡ replicate (length cells') 0) × (facings' ≡ replicate (length facings') 0))
  listable-cleared L = (
    record { drawable = L.drawable; cells-enough = rw cells-long L.cells-enough; facings-enough = rw facings-long L.facings-enough },
    (cleared-to (sym cells-long) zc, cleared-to (sym facings-long) zf),
  )

  pub listed-cleared : {R : Room} {limit : ℕ} {path kinds : List ℕ} {count : ℕ} {kinds₁ cells₁ facings₁ : List ℕ}
      → AllListed R limit path kinds (length cells') (length facings') count kinds₁ cells₁ facings₁
      → AllListed R limit path kinds (length cells) (length facings) count kinds₁ cells₁ facings₁
  listed-cleared A = rw (cells-long, facings-long) at A
