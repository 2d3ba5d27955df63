-- What is printed of an answer is printed of what comes; the limit of the program's own; how long the text can be.
use Rattle.std.specs.Prelude.{◌≡◌, Ok, Err, IfOk, refl, Bool, true, false, List, [], ◌∷◌, ◌++◌, map, ℕ, zero, suc, ◌+◌, ◌-◌, ◌*◌, ◌/◌, ◌%◌, ◌^◌, ◌≤◌, ◌<◌, ltb, eqb, length, take, drop, replicate}
use Rattle.std.proofs.Common.{sym, ap, ◌∙◌, le_of_lt, mul-le-mul, arith, length-append, length-take, take_at, ltb-true, ltb-false}
use Rattle.std.proofs.lemmas.List.{length-map, length-replicate}
use Rattle.numbers.specs.Refusals.{sheet_number, sides_number}
use Rattle.basics.specs.Tests.{ask, never}
use Rattle.basics.specs.Promises.{Determines}
use Rattle.basics.specs.Padding.{padded_long}
use Rattle.basics.specs.Lists.{joined}
use Rattle.lent.specs.Lent.{filled}
use Rattle.room.specs.declared.Room.{Room}
use Rattle.room.specs.Room.{volume}
use Rattle.ground.specs.declared.Mode.{Mode}
use Rattle.ground.specs.declared.Mode.TheVariants.{Published}
use Rattle.job_sheet.specs.declared.Reading.{Reading}
use Rattle.job_sheet.specs.declared.Judgement.{Judgement}
use Rattle.job_sheet.specs.declared.Judgement.TheVariants.{Good, Sheet, Sides, Config, Position, Code}
use Rattle.job_sheet.specs.Version.{version_in, sides_place}
use Rattle.job_sheet.specs.Sheet.{Contents, Means, Read, meaning, means-nothing, number_of, max_sinks}
use Rattle.job_sheet.specs.Places.{room_in}
use Rattle.job_sheet.specs.RecordLaws.{Bytes, coordinate-small}
use Rattle.job_sheet.proofs.Theorems.{number-one, room-stands}
use Rattle.branches.specs.declared.BranchLengths.{BranchLengths}
use Rattle.branches.specs.Branches.{sum, branch_lengths, lengths_in, cut_into, branches_of, Branched}
use Rattle.branches.specs.BranchLaws.{lengths_theirs, lengths-sum, cut-joined}
use Rattle.net_tree.specs.declared.Lengths.{Lengths}
use Rattle.net_tree.specs.Answers.{Answer, Lent, TreeOutcome, routed, no_tree, Comes, Promise, answer_of, lent_after, lengths_of, lent}
use Rattle.net_tree.specs.PromiseLaws.{comes-one}
use Rattle.route.specs.Lines.{decimal_within, spaced, spaced_all, line, net_word, branch_word, repeaters_word, refused_word, net_line, branch_line, branch_lines, repeaters_line, refused_line, tree_text, answer_text}
use Rattle.route.specs.Marked.{if_marked, marked_from, marked}
use Rattle.putting.specs.Putting.{Put, Fits}
use Rattle.route.specs.BranchCountLaws.{few-branches}
use Rattle.route.specs.Printed.{max_cells, max_branch_cells, queue_numbers, program_lengths, ComesHere, over-limit, within-limit, printed, Shown, Printed, SizeJudged, is-over, is_not, longest_text}

-- ---- the limit at 2's place

-- a side is of one byte or two, so that a product of three fits
pub cells_fit : (R : Room) (long : Bool) (l : List ℕ) → Bytes l → R ≡ room_in long l → (R.wide * R.high < 2 ^ 64) × (R.wide * R.high * R.deep < 2 ^ 64)
cells_fit R long l b e =
    let x : R.wide < 65536 = rw e (coordinate-small long l b _) in
    let y : R.high < 65536 = rw e (coordinate-small long l b _) in
    let z : R.deep < 65536 = rw e (coordinate-small long l b _) in
    let xy = mul-le-mul (le_of_lt x) (le_of_lt y) in
    (omega (arith, xy), omega (arith, mul-le-mul xy (le_of_lt z)))

number-is-one : (v : Judgement) → number_of v ≡ sheet_number → v ≡ Sheet
number-is-one Good e = never (cc)
number-is-one Sheet e = refl
number-is-one Sides e = never (omega arith)
number-is-one Config e = never (omega arith)
number-is-one Position e = never (omega arith)
number-is-one Code e = never (omega arith)

-- number 1 is judged first: then the sheet means nothing
pub size-unread : {sheet : List ℕ} {r : Reading} {n : ℕ} → Read sheet r → n ≡ number_of r.judgement → n ≡ sheet_number → {large : Bool} → large ≡ false → SizeJudged sheet large
size-unread {sheet} {r} R e one f =
    is_not (λ J m. absurd ((number-one sheet r R).0 (number-is-one r.judgement (sym e ∙ one)) J m)) f

-- otherwise it means something
pub has_meaning : {sheet : List ℕ} {r : Reading} {n : ℕ} → Read sheet r → n ≡ number_of r.judgement → (n ≡ sheet_number → ⊥) → (J : Contents) × Means sheet J
has_meaning (meaning J m e) d not-one = (J, m)
has_meaning (means-nothing none e) d not-one = absurd (not-one (d ∙ ap (λ x. number_of x.judgement) e))

pub size-judged : {sheet : List ℕ} (M : (J : Contents) × Means sheet J) {cells : ℕ} → cells ≡ volume (room_in (version_in sheet).long (drop sides_place sheet))
    → SizeJudged sheet (ltb max_cells cells)
size-judged {sheet} M {cells} e =
    let at : (K : Contents) → Means sheet K → cells ≡ volume K.room = λ K m. e ∙ ap volume (room-stands sheet K m) in
    ask (ltb max_cells cells) (λ t. is-over M.0 M.1 (omega (arith, ltb-true max_cells cells t, at M.0 M.1)) t)
    (λ f. is_not (λ K m. omega (arith, ltb-false max_cells cells f, at K m)) f)

-- ---- the lines of an answer are those of what comes

lengths-are : (bs : List (List ℕ)) (behind : List ℕ) → take (length bs) (map length bs ++ behind) ≡ map length bs
lengths-are bs behind = take_at (map length bs) behind (length bs) (length-map bs length)

none-marked : (cell n : ℕ) → marked_from cell (replicate n 0) ≡ []
unfolding marked_from
none-marked cell zero = refl
none-marked cell (suc n) = none-marked (suc cell) n

marked-filled : (cell : ℕ) (marks : List ℕ) (n : ℕ) → marked_from cell (marks ++ replicate n 0) ≡ marked_from cell marks
unfolding marked_from
marked-filled cell [] n = none-marked cell n
marked-filled cell (m ∷ marks) n = ap (λ l. if_marked m cell ++ l) (marked-filled (suc cell) marks n)

answer-printed : (o : TreeOutcome) (B : Lent) → answer_text (answer_of o) (lent_after o B).branches (lent_after o B).repeaters ≡ printed o
answer-printed (routed bs occupied repeaters) B =
    let cut = ap (λ l. cut_into l (filled (joined bs) B.branches)) (lengths-are bs (replicate (max_sinks - length bs) 0))
    ∙ cut-joined bs (replicate (length B.branches - length (joined bs)) 0) in
    let marks = marked-filled 0 repeaters (length B.repeaters - length repeaters) in
    rw (cut, marks) refl
answer-printed (no_tree number detail) B = refl

-- ---- how long the text is

decimal_length : (most n : ℕ) → length (decimal_within most n) ≤ most
unfolding decimal_within
decimal_length zero n = omega arith
decimal_length (suc most) n =
    ask (ltb n 10) (λ t. rw t (omega arith)) (λ f. rw f (omega (arith, length-append (decimal_within most (n / 10)) ((48 + n % 10) ∷ []), decimal_length most (n / 10))))

spaced_length : (ns : List ℕ) → length (spaced_all ns) ≤ 21 * length ns
unfolding spaced_all
spaced_length [] = omega arith
spaced_length (n ∷ ns) = omega (arith, length-append (spaced n) (spaced_all ns), decimal_length 20 n, spaced_length ns)

line_length : (word ns : List ℕ) → length (line word ns) ≤ length word + 1 + 21 * length ns
line_length word ns = omega (arith, length-append word (spaced_all ns ++ (10 ∷ [])), length-append (spaced_all ns) (10 ∷ []), spaced_length ns)

branch_lines_length : (cells ns : List ℕ) → length (branch_lines (cut_into ns cells)) ≤ 7 * length ns + 21 * sum ns
unfolding cut_into sum
branch_lines_length cells [] = omega arith
branch_lines_length cells (n ∷ ns) =
    omega (arith, length-append (branch_line (take n cells)) (branch_lines (cut_into ns (drop n cells))), line_length branch_word (take n cells), length-take n cells, branch_lines_length (drop n cells) ns)

if_marked_length : (mark cell : ℕ) → length (if_marked mark cell) ≤ 1
if_marked_length mark cell = ask (eqb mark 1) (λ t. rw t (omega arith)) (λ f. rw f (omega arith))

marked_length : (cell : ℕ) (marks : List ℕ) → length (marked_from cell marks) ≤ length marks
unfolding marked_from
marked_length cell [] = omega arith
marked_length cell (m ∷ marks) = omega (arith, length-append (if_marked m cell) (marked_from (suc cell) marks), if_marked_length m cell, marked_length (suc cell) marks)

refused_length : (number detail : ℕ) → length (refused_line number detail) ≤ 50
refused_length number detail = line_length refused_word (number ∷ detail ∷ [])

tree_length : {cells : List ℕ} {lengths : BranchLengths} → Branched lengths cells → (occupied : ℕ) (marks : List ℕ)
    → length (tree_text lengths occupied cells marks) ≤ 168 + 21 * length cells + 21 * length marks
tree_length {cells} {lengths} B occupied marks =
    let net = line_length net_word (lengths.count ∷ occupied ∷ []) in
    let branches = branch_lines_length cells (lengths_in lengths) in
    let repeaters = line_length repeaters_word (marked marks) in
    omega (
      arith,
      length-append (net_line lengths.count occupied) (branch_lines (branches_of lengths cells) ++ repeaters_line (marked marks)),
      length-append (branch_lines (branches_of lengths cells)) (repeaters_line (marked marks)),
      net,
      branches,
      repeaters,
      length-take lengths.count lengths.each,
      B.few,
      B.within,
      marked_length 0 marks,
    )

answer_length : (A : Answer) (cells : List ℕ) → IfOk A (λ tree. Branched tree.lengths cells) → (marks : List ℕ)
    → length (answer_text A cells marks) ≤ 168 + 21 * length cells + 21 * length marks
answer_length (Ok tree) cells B marks = tree_length B tree.occupied marks
answer_length (Err refused) cells B marks = omega (arith, refused_length refused.number refused.detail)

-- ---- from the promise of `route_net_tree` to the lines

outcome-branched : (o : TreeOutcome) {mode : Mode} {sheet : List ℕ} {L : Lengths} → Comes mode sheet L o → (B : Lent) → IfOk (answer_of o) (λ tree. Branched tree.lengths (lent_after o B).branches)
unfolding sum
outcome-branched (routed bs occupied repeaters) c B =
    let few = few-branches c in
    record {
      few = few;
      whole = padded_long (map length bs) max_sinks (length bs) 0 (length-map bs length) few;
      within = omega (
        arith,
        lengths-sum bs (branch_lengths bs) (lengths_theirs bs) refl,
        length-append (joined bs) (replicate (length B.branches - length (joined bs)) 0),
      );
    }
outcome-branched (no_tree code detail) c B = tt {0}

module _ {mode : Mode} {sheet : List ℕ} {B : Lent} {r : Answer} {B' : Lent} (P : Promise mode sheet B r B') where
  pub promise_branched : IfOk r (λ tree. Branched tree.lengths B'.branches)
  promise_branched = rw (P.lent_is, P.answer) (outcome-branched P.outcome P.comes B)

  pub promise_fits : {out : List ℕ} → length B'.branches ≡ max_branch_cells → length B'.repeaters ≡ max_cells → longest_text ≤ length out
      → Fits out 0 (answer_text r B'.branches B'.repeaters)
  promise_fits b m h = record { place = omega (arith, answer_length r B'.branches promise_branched B'.repeaters) }

  pub promise_shown : lengths_of B ≡ program_lengths → {out out' : List ℕ} {end : ℕ} → Fits out 0 (answer_text r B'.branches B'.repeaters)
      → Put out 0 (answer_text r B'.branches B'.repeaters) out' end → Shown (Comes mode sheet program_lengths) out' end
  promise_shown e f p = record {
    outcome = P.outcome;
    so = rw e at P.comes;
    within = omega (arith, f.place, p.ends, p.same);
    is = p.front ∙ rw (P.answer, P.lent_is) (answer-printed P.outcome B);
  }

-- ---- what is printed of a sheet

pub over-fits : {out : List ℕ} → longest_text ≤ length out → Fits out 0 (refused_line sides_number 0)
over-fits h = record { place = omega (arith, refused_length sides_number 0) }

pub printed-over : {sheet : List ℕ} {large : Bool} → SizeJudged sheet large → large ≡ true → {out out' : List ℕ} {end : ℕ} → longest_text ≤ length out
    → Put out 0 (refused_line sides_number 0) out' end → Printed sheet out' end
printed-over (is-over J m h e) t long p =
    record { outcome = no_tree sides_number 0; so = over-limit J m h refl; within = omega (arith, refused_length sides_number 0, p.ends, p.same); is = p.front }
printed-over (is_not none e) t long p = never (cc)

pub printed_not_over : {sheet : List ℕ} {large : Bool} → SizeJudged sheet large → large ≡ false → {out : List ℕ} {end : ℕ}
    → Shown (Comes Published sheet program_lengths) out end → Printed sheet out end
printed_not_over (is-over J m h e) f s = never (cc)
printed_not_over (is_not small e) f s = record { outcome = s.outcome; so = within-limit small s.so; within = s.within; is = s.is }

-- a sheet has one outcome here, and so one text
here-one : {sheet : List ℕ} {o q : TreeOutcome} → ComesHere sheet o → ComesHere sheet q → o ≡ q
here-one (over-limit J m h e) (over-limit K n g d) = e ∙ sym d
here-one (over-limit J m h e) (within-limit small c) = absurd (omega (arith, small J m))
here-one (within-limit small c) (over-limit K n g d) = absurd (omega (arith, small K n))
here-one (within-limit small c) (within-limit small' d) = comes-one c d

-- the text that a result of `put_sheet` is
pub record Puts (sheet text : List ℕ) : Type 0 where
  pub out : List ℕ
  pub end : ℕ
  pub put : Printed sheet out end
  pub text-is : text ≡ take end out

pub coincide : (sheet : List ℕ) → Determines (Puts sheet)
coincide sheet x y p q = p.text-is ∙ p.put.is ∙ ap printed (here-one p.put.so q.put.so) ∙ sym q.put.is ∙ sym q.text-is

-- the program's own memory has these lengths
pub own-lengths :
    lengths_of
    (lent (replicate max_branch_cells 0) (replicate max_cells 0) (replicate max_cells 0) (replicate max_cells 0) (replicate max_cells 0) (replicate max_cells 0) (replicate max_cells 0) (replicate max_cells 0) (replicate max_cells 0)
    (replicate max_cells 0) (replicate max_cells 0) (replicate queue_numbers 0))
    ≡ program_lengths
own-lengths = rw (length-replicate {A = ℕ} max_branch_cells 0, length-replicate {A = ℕ} max_cells 0, length-replicate {A = ℕ} queue_numbers 0) refl
