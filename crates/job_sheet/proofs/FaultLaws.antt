-- The first fault of a list can be found list by list, each time from the fault so far; and no contents are judged number 1.
use Rattle.std.specs.Prelude.{◌≡◌, Bool, true, false, ℕ, suc, zero, drop}
use Rattle.std.proofs.Math.Path.{refl, sym}
use Rattle.std.proofs.Common.{ap, ◌∙◌}
use mathlib.Core.List.{List, [], ◌∷◌, ◌++◌, map}
use Rattle.basics.specs.Tests.{ask, either, and_left, and_right, and_both, never}
use Rattle.basics.specs.Lists.{every, every_map, every-all, joined, every-joined}
use Rattle.room.specs.declared.Room.{Room}
use Rattle.room.specs.declared.Pos.{Pos}
use Rattle.room.specs.declared.RouterConfig.{RouterConfig}
use Rattle.room.specs.Room.{within}
use Rattle.job_sheet.specs.declared.Block.{Block}
use Rattle.job_sheet.specs.declared.Endpoint.{Endpoint}
use Rattle.job_sheet.specs.declared.places.Layout.{Layout}
use Rattle.job_sheet.specs.declared.Part.{Part}
use Rattle.job_sheet.specs.declared.Sink.{Sink}
use Rattle.job_sheet.specs.declared.Version.{Version}
use Rattle.job_sheet.specs.declared.faults.Records.TheVariants.{Blocks, Positions, Endpoints, Sinks}
use Rattle.job_sheet.specs.declared.Judgement.{Judgement}
use Rattle.job_sheet.specs.declared.Judgement.TheVariants.{Good, Sheet, Sides, Config, Position, Code}
use Rattle.job_sheet.specs.UsualLimits.{usual_run}
use Rattle.job_sheet.specs.Version.{sides_place, config_place, run_place, sides_within, config_within, limit_within}
use Rattle.job_sheet.specs.Sheet.{Contents, is_good, first_fault, sides_fault, config_fault, limit_fault, position_fault, block_fault, endpoint_fault, sink_fault, faults_of, judged}
use Rattle.job_sheet.specs.Places.{room_in, config_in, limit_in, many, blocks_in, positions_in, sinks_in, faults_in, head_fault, list_at, layout_in, contents_in}

pub good-is : (v : Judgement) → is_good v ≡ true → v ≡ Good
good-is Good e = refl
good-is Sheet e = cc
good-is Sides e = cc
good-is Config e = cc
good-is Position e = cc
good-is Code e = cc

pub first-none : first_fault [] ≡ Good
unfolding first_fault
first-none = refl

pub fault_first : (v : Judgement) (vs : List Judgement) → is_good v ≡ false → first_fault (v ∷ vs) ≡ v
unfolding first_fault
fault_first v vs e = rw e

pub good-first : (v : Judgement) (vs : List Judgement) → is_good v ≡ true → first_fault (v ∷ vs) ≡ first_fault vs
unfolding first_fault
good-first v vs e = rw e

pub only-first : (v : Judgement) → first_fault (v ∷ []) ≡ v
only-first v = ask (is_good v) (λ e. good-first v [] e ∙ first-none ∙ sym (good-is v e)) (λ e. fault_first v [] e)

pub first_on : (l m : List Judgement) → first_fault (l ++ m) ≡ first_fault (first_fault l ∷ m)
unfolding first_fault
first_on [] m = refl
first_on (v ∷ l) m = ask (is_good v) (λ e. rw (e, first_on l m)) (λ e. rw (e, e))

-- of two faults the first, and the second where there is no first
pub first-of-two : {f v : Judgement} (w : Judgement) → f ≡ v → is_good f ≡ false → f ≡ first_fault (v ∷ w ∷ [])
first-of-two {v = v} w e g = e ∙ sym (fault_first v (w ∷ []) (ap is_good (sym e) ∙ g))

pub second-of-two : {f v w r : Judgement} → f ≡ v → is_good f ≡ true → r ≡ w → r ≡ first_fault (v ∷ w ∷ [])
second-of-two {v = v} {w = w} e g h = h ∙ sym (good-first v (w ∷ []) (ap is_good (sym e) ∙ g) ∙ only-first w)

-- the fault so far, carried from list to list
unfoldable pub carried : Judgement → List (List Judgement) → Judgement
carried v [] = v
carried v (l ∷ ls) = carried (first_fault (v ∷ l)) ls

pub carried-is : (v : Judgement) (ls : List (List Judgement)) → carried v ls ≡ first_fault (v ∷ joined ls)
unfolding carried
carried-is v [] = sym (only-first v)
carried-is v (l ∷ ls) = carried-is (first_fault (v ∷ l)) ls ∙ sym (first_on (v ∷ l) (joined ls))

-- ---- the faults of a sheet's records

pub many_map : {X Y : Type 0} (f : X → Y) (value : List ℕ → X) (size n : ℕ) (l : List ℕ) → many (λ m. f (value m)) size n l ≡ map f (many value size n l)
many_map f value size zero l = refl
many_map f value size (suc n) l = ap (λ r. f (value l) ∷ r) (many_map f value size n (drop size l))

module _ (v : Version) (R : Room) (s : List ℕ) (p : Part) where
  blocks_faults : p.long ≡ v.long → faults_in v R Blocks s p ≡ map (block_fault R) (blocks_in s p)
  unfolding blocks_in
  blocks_faults e = rw (← e) (many_map (block_fault R) _ p.size p.count (drop p.from s))

  positions_faults : p.long ≡ v.long → faults_in v R Positions s p ≡ map (position_fault R) (positions_in s p)
  unfolding positions_in
  positions_faults e = rw (← e) (many_map (position_fault R) _ p.size p.count (drop p.from s))

  sinks_faults : faults_in v R Sinks s p ≡ map (sink_fault R) (sinks_in v s p)
  unfolding sinks_in
  sinks_faults = many_map (sink_fault R) _ p.size p.count (drop p.from s)

-- the faults of the records, list by list in the sheet's order
abbrev record_faults : Version → List ℕ → Room → Layout → List (List Judgement)
record_faults v s R L =
    faults_in v R Blocks s L.blocks
    ∷ faults_in v R Positions s L.conductors
    ∷ faults_in v R Positions s L.clearances
    ∷ faults_in v R Positions s L.terminals
    ∷ faults_in v R Positions s L.reserved
    ∷ faults_in v R Endpoints s L.source
    ∷ faults_in v R Sinks s L.sinks
    ∷ []

module _ (v : Version) (s : List ℕ) where
  abbrev R₀ : Room
  R₀ = room_in v.long (drop sides_place s)

  abbrev C₀ : RouterConfig
  C₀ = config_in (drop (config_place v) s)

  abbrev run₀ : ℕ
  run₀ = limit_in v.limits usual_run (drop (run_place v) s) 0

  -- what the code carries is the judgement
  judged-carried : carried (head_fault v.ranges R₀ C₀ run₀) (record_faults v s R₀ (layout_in v s)) ≡ judged v (contents_in v s)
  unfolding judged contents_in layout_in list_at
  judged-carried =
      let L = layout_in v s in
      let head : List Judgement = sides_fault v.ranges R₀ ∷ config_fault v.ranges R₀ C₀ ∷ limit_fault run₀ ∷ [] in
      carried-is (first_fault head) (record_faults v s R₀ L)
      ∙ sym (first_on head (joined (record_faults v s R₀ L)))
      ∙ λ i. first_fault (
      joined (
      head
      ∷ blocks_faults v R₀ s L.blocks refl i
      ∷ positions_faults v R₀ s L.conductors refl i
      ∷ positions_faults v R₀ s L.clearances refl i
      ∷ positions_faults v R₀ s L.terminals refl i
      ∷ positions_faults v R₀ s L.reserved refl i
      ∷ faults_in v R₀ Endpoints s L.source
      ∷ sinks_faults v R₀ s L.sinks i
      ∷ []
      )
      )

  module _ (R : Room) (C : RouterConfig) (run : ℕ) (L : Layout) (r : R ≡ R₀) (c : C ≡ C₀) (n : run ≡ run₀) (l : L ≡ layout_in v s) where
    pub judged-steps : (v₀ v₁ v₂ v₃ v₄ v₅ v₆ v₇ : Judgement)
        → v₀ ≡ head_fault v.ranges R C run
        → v₁ ≡ first_fault (v₀ ∷ faults_in v R Blocks s L.blocks)
        → v₂ ≡ first_fault (v₁ ∷ faults_in v R Positions s L.conductors)
        → v₃ ≡ first_fault (v₂ ∷ faults_in v R Positions s L.clearances)
        → v₄ ≡ first_fault (v₃ ∷ faults_in v R Positions s L.terminals)
        → v₅ ≡ first_fault (v₄ ∷ faults_in v R Positions s L.reserved)
        → v₆ ≡ first_fault (v₅ ∷ faults_in v R Endpoints s L.source)
        → v₇ ≡ first_fault (v₆ ∷ faults_in v R Sinks s L.sinks)
        → v₇ ≡ judged v (contents_in v s)
    unfolding carried
    judged-steps v₀ v₁ v₂ v₃ v₄ v₅ v₆ v₇ e₀ e₁ e₂ e₃ e₄ e₅ e₆ e₇ = rw (e₇, e₆, e₅, e₄, e₃, e₂, e₁, e₀, r, c, n, l) judged-carried

-- ---- number 1 is no judgement of contents

not_sheet : Judgement → Bool
not_sheet Good = true
not_sheet Sheet = false
not_sheet Sides = true
not_sheet Config = true
not_sheet Position = true
not_sheet Code = true

first_not : (l : List Judgement) → every not_sheet l ≡ true → not_sheet (first_fault l) ≡ true
unfolding first_fault not_sheet
first_not [] e = refl
first_not (v ∷ l) e = ask (is_good v) (λ g. rw g (first_not l (and_right (not_sheet v) (every not_sheet l) e))) (λ f. rw f (and_left (not_sheet v) (every not_sheet l) e))

test_not : (t : Bool) (v : Judgement) → not_sheet v ≡ true → not_sheet (either t Good v) ≡ true
unfolding not_sheet
test_not true v e = refl
test_not false v e = e

module _ (R : Room) where
  position_not : (p : Pos) → not_sheet (position_fault R p) ≡ true
  unfolding not_sheet
  position_not p = test_not (within R p) Position refl

  block_not : (b : Block) → not_sheet (block_fault R b) ≡ true
  unfolding block_fault not_sheet
  block_not b = first_not _ (search (and_both, test_not) depth 8)

  endpoint_not : (e : Endpoint) → not_sheet (endpoint_fault R e) ≡ true
  unfolding endpoint_fault not_sheet
  endpoint_not e = first_not _ (search (and_both, test_not) depth 8)

  sink_not : (k : Sink) → not_sheet (sink_fault R k) ≡ true
  unfolding sink_fault not_sheet
  sink_not k = first_not _ (and_both (endpoint_not k.end) (and_both (test_not (limit_within k.tail) Config refl) refl))

all_not : {X : Type 0} (fault : X → Judgement) → ((x : X) → not_sheet (fault x) ≡ true) → (xs : List X) → every not_sheet (map fault xs) ≡ true
all_not fault f xs = rw every_map (every-all (λ x. not_sheet (fault x)) f xs)

pub judged_not : (v : Version) (J : Contents) → judged v J ≡ Sheet → ⊥
unfolding judged not_sheet
judged_not v J e =
    let R = J.room in
    let all : every (every not_sheet) (faults_of v J) ≡ true =
    and_both (and_both (test_not (sides_within v.ranges R) Sides refl) (and_both (test_not (config_within v.ranges R J.config) Config refl) (and_both (test_not (limit_within J.run) Config refl) refl)))
    (and_both (all_not (block_fault R) (block_not R) J.blocks)
    (and_both (all_not (position_fault R) (position_not R) J.conductors)
    (and_both (all_not (position_fault R) (position_not R) J.clearances)
    (and_both (all_not (position_fault R) (position_not R) J.terminals)
    (and_both (all_not (position_fault R) (position_not R) J.reserved)
    (and_both (and_both (endpoint_not R J.source) refl)
    (and_both (all_not (sink_fault R) (sink_not R) J.sinks) refl)))))))
    in
    let q : not_sheet (judged v J) ≡ true = first_not _ (rw every-joined all) in
    never (cc (ap not_sheet e))
