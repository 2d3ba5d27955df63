-- What a sheet means is what its places hold, so that the reading's answers are right.
use Rattle.std.specs.Prelude.{◌≡◌, refl, true, false, List, ℕ, eqb, drop}
use Rattle.std.proofs.Math.Path.{sym, ap}
use Rattle.std.proofs.Common.{◌∙◌, le-leb, eq-eqb}
use Rattle.basics.specs.Tests.{ask, and_both, passed, never}
use Rattle.room.specs.declared.Room.{Room}
use Rattle.room.specs.declared.RouterConfig.{RouterConfig}
use Rattle.job_sheet.specs.declared.Endpoint.{Endpoint}
use Rattle.job_sheet.specs.declared.places.Layout.{Layout}
use Rattle.job_sheet.specs.declared.Sinks.{Sinks}
use Rattle.job_sheet.specs.declared.Job.{Job}
use Rattle.job_sheet.specs.declared.Reading.{Reading}
use Rattle.job_sheet.specs.declared.Version.{Version}
use Rattle.job_sheet.specs.declared.Judgement.{Judgement}
use Rattle.job_sheet.specs.declared.Judgement.TheVariants.{Sheet}
use Rattle.job_sheet.specs.UsualLimits.{usual_run, usual_tail}
use Rattle.job_sheet.specs.Version.{version_in, sides_place, config_place, run_place}
use Rattle.job_sheet.specs.Sheet.{Contents, usual, tells_limits, MeansBy, is_good, judged, sinks_of, layout_of, job_of, refused, Read, meaning, means-nothing}
use Rattle.job_sheet.specs.Places.{room_in, config_in, limit_in, endpoint_in, sink_in, sinks_in, layout_in, contents_in, shape_holds, shaped, Shaped}
use Rattle.job_sheet.specs.RecordLaws.{Bytes, many-long, many-every}
use Rattle.job_sheet.specs.LayoutLaws.{layout_back, shaped-back, bytes-forth}
use Rattle.job_sheet.proofs.FaultLaws.{good-is}

pub shaped-is : (v : Version) (s : List ℕ) → shaped v s ≡ true → Shaped v s
unfolding shaped shape_holds
shaped-is v s e = record { short = search passed; of_version = search passed; rest-long = search passed; few-sinks = search passed; whole = search passed }

shaped-passes : (v : Version) (s : List ℕ) → Shaped v s → shaped v s ≡ true
unfolding shaped shape_holds
shaped-passes v s S =
    and_both (le-leb _ _ S.short)
    (and_both (eq-eqb _ _ S.of_version) (and_both (eq-eqb _ _ S.rest-long) (and_both (le-leb _ _ S.few-sinks) (eq-eqb _ _ S.whole))))

means-shaped : (v : Version) (s : List ℕ) (J : Contents) → MeansBy v s J → Shaped v s
means-shaped v s J m = rw m.bytes at (shaped-back v J (rw m.bytes m.short) m.few-sinks)

-- limits that aren't carried are read as the usual ones
limits-read : (v : Version) (s : List ℕ) → tells_limits v (contents_in v s) ≡ true
unfolding usual contents_in sinks_in
limits-read v s =
    let p = (layout_in v s).sinks in
    ask v.limits (λ t. rw t) (λ f.
    let tails = many-every (λ k. eqb k.tail usual_tail) (sink_in v) p.size (λ l. rw f refl) p.count (drop p.from s) in
    let run : eqb (limit_in v.limits usual_run (drop (run_place v) s) 0) usual_run ≡ true = rw f refl in
    rw f (and_both (rw f at run) (rw f at tails)))

module _ (v : Version) (s : List ℕ) (b : Bytes s) (S : Shaped v s) where
  shaped-means : MeansBy v s (contents_in v s)
  unfolding contents_in sinks_in
  shaped-means = record {
    bytes = bytes-forth v s b S;
    limits = limits-read v s;
    short = S.short;
    few-sinks = rw (many-long (sink_in v) (layout_in v s).sinks.size (layout_in v s).sinks.count (drop (layout_in v s).sinks.from s)) S.few-sinks;
  }

  layout_forth : layout_of v (contents_in v s) ≡ layout_in v s
  layout_forth = sym (layout_back v (contents_in v s)) ∙ ap (layout_in v) (bytes-forth v s b S)

  -- the job that is put together from the parts
  pub job-forth : (R : Room) (C : RouterConfig) (run : ℕ) (L : Layout) (e : Endpoint) (k : Sinks)
      → R ≡ room_in v.long (drop sides_place s)
      → C ≡ config_in (drop (config_place v) s)
      → run ≡ limit_in v.limits usual_run (drop (run_place v) s) 0
      → L ≡ layout_in v s
      → e ≡ endpoint_in v.long (drop L.source.from s)
      → k ≡ sinks_of (sinks_in v s L.sinks)
      → ◌≡◌ {A = Job} (record {
        room = R;
        config = C;
        run = run;
        blocks = L.blocks;
        conductors = L.conductors;
        clearances = L.clearances;
        terminals = L.terminals;
        reserved = L.reserved;
        source = e;
        sinks = k;
      }) (job_of v (contents_in v s))
  unfolding job_of contents_in
  job-forth R C run L e k r c n l p q =
      let f : L ≡ layout_of v (contents_in v s) = l ∙ sym layout_forth in
      let source : e ≡ endpoint_in v.long (drop (layout_in v s).source.from s) = p ∙ ap (λ M. endpoint_in v.long (drop M.source.from s)) l in
      let sinks : k ≡ sinks_of (sinks_in v s (layout_in v s).sinks) = q ∙ ap (λ M. sinks_of (sinks_in v s M.sinks)) l in
      λ i. record {
        room = r i;
        config = c i;
        run = n i;
        blocks = (f i).blocks;
        conductors = (f i).conductors;
        clearances = (f i).clearances;
        terminals = (f i).terminals;
        reserved = (f i).reserved;
        source = source i;
        sinks = sinks i;
      }

  -- in the version of the sheet's first byte
  module _ (n : v ≡ version_in s) where
    pub read-refused : (f : Judgement) → f ≡ judged v (contents_in v s) → is_good f ≡ false → (r : Reading) → r ≡ refused f → Read s r
    read-refused f j g r e = meaning (contents_in v s) (rw (← n) shaped-means) (rw (← n, ← j, g) e)

    pub read-accepted : (f : Judgement) → f ≡ judged v (contents_in v s) → is_good f ≡ true → (job : Job) → job ≡ job_of v (contents_in v s)
        → Read s (record { judgement = f; job = job })
    read-accepted f j g job e =
        meaning (contents_in v s) (rw (← n) shaped-means) (rw (← n, ← j, g) (λ i. record { judgement = good-is f g i; job = e i }))

pub read-nothing : (v : Version) (s : List ℕ) → v ≡ version_in s → shaped v s ≡ false → (r : Reading) → r ≡ refused Sheet → Read s r
read-nothing v s n f r e =
    means-nothing (λ J m. let p : shaped v s ≡ true = shaped-passes v s (means-shaped v s J (rw n m)) in never (cc)) e
