-- Where no fault is found, every record's position is inside, and the record stands where the job says.
use Rattle.std.specs.Prelude.{◌≡◌, Bool, false, List, [], ◌∷◌, map, ℕ, ◌-◌, ◌≤◌, ◌<◌, length, get_or, replicate}
use Rattle.std.proofs.Math.Path.{refl}
use Rattle.std.proofs.Common.{sym, ap, ◌∙◌}
use Rattle.std.proofs.Math.Bool.{true}
use Rattle.std.proofs.Math.ListN.{get_or-append}
use Rattle.basics.specs.Tests.{ask, either, passed, never}
use Rattle.basics.specs.Lists.{every, every_in, every_map, in_at, every-joined}
use Rattle.basics.specs.Padding.{padded_long}
use Rattle.room.specs.declared.Room.{Room}
use Rattle.room.specs.declared.Pos.{Pos}
use Rattle.room.specs.Room.{Within, within}
use Rattle.room.specs.RoomLaws.{within-is}
use Rattle.job_sheet.specs.declared.Block.{Block}
use Rattle.job_sheet.specs.declared.Endpoint.{Endpoint}
use Rattle.job_sheet.specs.declared.Part.{Part}
use Rattle.job_sheet.specs.declared.Sink.{Sink}
use Rattle.job_sheet.specs.declared.Version.{Version}
use Rattle.job_sheet.specs.declared.Judgement.{Judgement}
use Rattle.job_sheet.specs.declared.Judgement.TheVariants.{Good, Sides, Config, Position}
use Rattle.job_sheet.specs.Version.{sides_within, config_within, limit_within, Searchable}
use Rattle.job_sheet.specs.VersionLaws.{good-sides, good-config}
use Rattle.job_sheet.specs.Sheet.{Contents, is_good, first_fault, sides_fault, config_fault, limit_fault, position_fault, block_fault, endpoint_fault, sink_fault, judged, bytes_by, max_sinks, behind, no_sink, sinks_of, layout_of, job_of}
use Rattle.job_sheet.specs.Accepted.{BlockList, PositionList, SinkList, Usable}
use Rattle.job_sheet.specs.Places.{no_block, no_position, positions_in}
use Rattle.job_sheet.specs.LayoutLaws.{PartsIn, blocks-back, conductors-back, clearances-back, terminals-back, reserved-back}
use Rattle.job_sheet.proofs.FaultLaws.{good-is, fault_first, good-first}

-- ---- no fault at all

pub first_good : (l : List Judgement) → first_fault l ≡ Good → every is_good l ≡ true
first_good [] e = refl
first_good (v ∷ l) e =
    ask (is_good v) (λ g. rw g (first_good l (sym (good-first v l g) ∙ e))) (λ f. let z : v ≡ Good = sym (fault_first v l f) ∙ e in never (cc (ap is_good z)))

-- a test whose failure is a fault was passed
pub faultless : (t : Bool) (v : Judgement) → is_good v ≡ false → is_good (either t Good v) ≡ true → t ≡ true
faultless true v f e = refl
faultless false v f e = sym f ∙ e

module _ (R : Room) where
  pub position-within : (p : Pos) → is_good (position_fault R p) ≡ true → Within R p
  position-within p g = within-is R p (faultless (within R p) Position refl g)

  pub block_within : (b : Block) → is_good (block_fault R b) ≡ true → Within R b.at
  unfolding block_fault
  block_within b g = let all = first_good _ (good-is _ g) in position-within b.at (search passed)

  pub endpoint-within : (e : Endpoint) → is_good (endpoint_fault R e) ≡ true → Within R e.at
  unfolding endpoint_fault
  endpoint-within e g = let all = first_good _ (good-is _ g) in position-within e.at (search passed)

  pub sink-within : (k : Sink) → is_good (sink_fault R k) ≡ true → Within R k.end.at
  unfolding sink_fault
  sink-within k g = let all = first_good _ (good-is _ g) in endpoint-within k.end (search passed)

  pub tail_within : (k : Sink) → is_good (sink_fault R k) ≡ true → limit_within k.tail ≡ true
  unfolding sink_fault
  tail_within k g =
      let all = first_good _ (good-is _ g) in
      let t : is_good (limit_fault k.tail) ≡ true = search passed in
      faultless (limit_within k.tail) Config refl t

-- ---- of a job without fault, each part is good

pub record NoFault (v : Version) (J : Contents) : Type 0 where
  pub sides : sides_within v.ranges J.room ≡ true
  pub config : config_within v.ranges J.room J.config ≡ true
  pub run : limit_within J.run ≡ true
  pub blocks : every is_good (map (block_fault J.room) J.blocks) ≡ true
  pub conductors : every is_good (map (position_fault J.room) J.conductors) ≡ true
  pub clearances : every is_good (map (position_fault J.room) J.clearances) ≡ true
  pub terminals : every is_good (map (position_fault J.room) J.terminals) ≡ true
  pub reserved : every is_good (map (position_fault J.room) J.reserved) ≡ true
  pub source : is_good (endpoint_fault J.room J.source) ≡ true
  pub sinks : every is_good (map (sink_fault J.room) J.sinks) ≡ true

pub no_fault : (v : Version) (J : Contents) → judged v J ≡ Good → NoFault v J
unfolding judged
no_fault v J e =
    let all = rw every-joined at (first_good _ e) in
    let x : is_good (sides_fault v.ranges J.room) ≡ true = search passed in
    let c : is_good (config_fault v.ranges J.room J.config) ≡ true = search passed in
    let n : is_good (limit_fault J.run) ≡ true = search passed in
    record {
      sides = faultless (sides_within v.ranges J.room) Sides refl x;
      config = faultless (config_within v.ranges J.room J.config) Config refl c;
      run = faultless (limit_within J.run) Config refl n;
      blocks = search passed depth 12;
      conductors = search passed depth 12;
      clearances = search passed depth 12;
      terminals = search passed depth 12;
      reserved = search passed depth 12;
      source = search passed depth 12;
      sinks = search passed depth 12;
    }

-- ---- the lists of a sheet of J's bytes

module _ {X : Type 0} (fault : X → Judgement) (xs : List X) (e : every is_good (map fault xs) ≡ true) where
  good-at : (i : ℕ) → i < length xs → (d : X) → is_good (fault (get_or xs i d)) ≡ true
  good-at i h d = every_in (λ x. is_good (fault x)) xs (rw every_map at e) (get_or xs i d) (in_at xs i d h)

module _ (v : Version) (J : Contents) (N : NoFault v J) (I : PartsIn (bytes_by v J) (layout_of v J)) where
  block-list : BlockList (bytes_by v J) J.room (layout_of v J).blocks J.blocks
  unfolding layout_of
  block-list = record {
    inside = I.blocks;
    are = blocks-back v J;
    within = λ i h. rw (blocks-back v J) (block_within J.room _ (good-at (block_fault J.room) J.blocks N.blocks i h no_block));
  }

  position-list : (p : Part) (ps : List Pos) → behind p ≤ length (bytes_by v J) → positions_in (bytes_by v J) p ≡ ps → p.count ≡ length ps
      → every is_good (map (position_fault J.room) ps) ≡ true → PositionList (bytes_by v J) J.room p ps
  position-list p ps inside are count e = record {
    inside = inside;
    are = are;
    within = λ i h. rw are (position-within J.room _ (good-at (position_fault J.room) ps e i (rw (← count) h) no_position));
  }

  sink-at : (i : ℕ) → i < length J.sinks → get_or (sinks_of J.sinks).ends i no_sink ≡ get_or J.sinks i no_sink
  sink-at i h = get_or-append J.sinks (replicate (max_sinks - length J.sinks) no_sink) no_sink i h

  sink-list : length J.sinks ≤ max_sinks → SinkList J.room (sinks_of J.sinks)
  sink-list few = record {
    few = few;
    whole = padded_long J.sinks max_sinks (length J.sinks) no_sink refl few;
    within = λ i h. rw (sink-at i h) (sink-within J.room _ (good-at (sink_fault J.room) J.sinks N.sinks i h no_sink));
  }

  pub usable-job : Searchable v.ranges → length J.sinks ≤ max_sinks → Usable (bytes_by v J) (job_of v J) J
  unfolding job_of layout_of
  usable-job S few = record {
    room-is = refl;
    room-good = good-sides v.ranges S J.room N.sides;
    config-is = refl;
    config-good = good-config v.ranges J.room J.config N.config;
    run_is = refl;
    blocks = block-list;
    conductors = position-list (layout_of v J).conductors J.conductors I.conductors (conductors-back v J) refl N.conductors;
    clearances = position-list (layout_of v J).clearances J.clearances I.clearances (clearances-back v J) refl N.clearances;
    terminals = position-list (layout_of v J).terminals J.terminals I.terminals (terminals-back v J) refl N.terminals;
    reserved = position-list (layout_of v J).reserved J.reserved I.reserved (reserved-back v J) refl N.reserved;
    source_is = refl;
    source = endpoint-within J.room J.source N.source;
    sinks = sink-list few;
  }
