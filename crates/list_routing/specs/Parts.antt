-- What the contracts of one net's parts cite: routed into what is left of the branch buffer and of the lengths, and laid.
use Rattle.std.specs.Prelude.{◌≡◌, List, ◌++◌, ℕ, ◌+◌, ◌-◌, ◌*◌, ◌≤◌, ◌<◌, length, take, drop, Option, Result, Ok, Err}
use Rattle.std.proofs.Common.{ap}
use Rattle.ground.specs.declared.Mode.{Mode}
use Rattle.job_sheet.specs.Sheet.{max_sinks}
use Rattle.branches.specs.declared.BranchLengths.{BranchLengths}
use Rattle.branches.specs.Branches.{sum, lengths_in, Short}
use Rattle.net_tree.specs.declared.Tree.{Tree}
use Rattle.net_tree.specs.declared.Refused.{Refused}
use Rattle.net_tree.specs.Answers.{Answer, Lent, lent}
use Rattle.kept_nets.specs.Keep.{NextAsked, NextRouted}
use Rattle.laid_nets.specs.declared.Meeting.{Meeting}
use Rattle.laid_nets.specs.Layings.{SheetLayable, SheetLaid}
use Rattle.list_routing.specs.declared.Stand.{Stand}
use Rattle.list_routing.specs.declared.NetRefused.{NetRefused}

-- a sheet of the list, from here to there
abbrev pub sheet_here : List ℕ → ℕ → ℕ → List ℕ
sheet_here list place end = take (end - place) (drop place list)

pub record Span (list : List ℕ) (place end : ℕ) : Type 0 where
  pub ordered : place ≤ end
  pub within : end ≤ length list

-- what is left of a buffer behind so many entries, as it is handed on; and the buffer with that back in its place
abbrev pub rest_of : ℕ → List ℕ → List ℕ
rest_of n l = take (length l - n) (drop n l)

abbrev pub put_back : ℕ → List ℕ → List ℕ → List ℕ
put_back n l part = take n l ++ (part ++ drop (length l - n) (drop n l))

-- ---- routed

-- where the lengths of this net's branches stand
abbrev pub counted_at : Stand → ℕ
counted_at stand = max_sinks * stand.net

-- the memory of one net: what is left of the branch buffer, and all else
abbrev pub left_of : ℕ → Lent → Lent
left_of used B = lent (rest_of used B.branches) B.occupied B.repeaters B.kinds B.blocked B.classes B.joinable B.known B.previous B.path B.best B.queue

pub record PartAsked (list : List ℕ) (stand : Stand) (end : ℕ) (planned before lengths : List ℕ) (B : Lent) : Type 0 where
  pub span : Span list stand.place end
  pub used-most : stand.used ≤ length B.branches
  pub counted-most : counted_at stand ≤ length lengths
  pub asked : NextAsked list (sheet_here list stand.place end) planned before (rest_of (counted_at stand) lengths) (left_of stand.used B)

pub record PartRouted (mode : Mode) (list : List ℕ) (stand : Stand) (end : ℕ) (before lengths : List ℕ) (B : Lent) (r : Answer)
    (branches' lengths' repeaters' before' occupied' planned' : List ℕ) : Type 0 where
  pub branches : List ℕ
  pub lengths-left : List ℕ
  pub branches-are : branches' ≡ put_back stand.used B.branches branches
  pub lengths-are : lengths' ≡ put_back (counted_at stand) lengths lengths-left
  pub routed : NextRouted mode list (sheet_here list stand.place end) stand.net before (rest_of (counted_at stand) lengths) (left_of stand.used B) r
      branches lengths-left repeaters' before' occupied' planned'

-- ---- laid

-- an answer that can be laid, if it is a tree
pub record TreeLayable (list : List ℕ) (stand : Stand) (end : ℕ) (L : BranchLengths) (branches occupied planned owners kinds facings known previous path : List ℕ) : Type 0 where
  pub short : Short L
  pub few : L.count ≤ max_sinks
  pub counted : stand.net < length list
  pub fits : stand.used + sum (lengths_in L) ≤ length branches
  pub layable : SheetLayable (sheet_here list stand.place end) stand.net stand.met L (rest_of stand.used branches) occupied planned owners kinds facings known previous path

pub record AnswerLayable (list : List ℕ) (stand : Stand) (end : ℕ) (r : Answer) (branches occupied planned owners kinds facings known previous path : List ℕ) : Type 0 where
  pub span : Span list stand.place end
  pub used-most : stand.used ≤ length branches
  pub tree : (t : Tree) → r ≡ Ok t → TreeLayable list stand end t.lengths branches occupied planned owners kinds facings known previous path

-- how far the walk has come with a net whose branches have these lengths
abbrev pub further : Stand → ℕ → BranchLengths → Option Meeting → Stand
further stand end L met = record { place = end; net = stand.net + 1; used = stand.used + sum (lengths_in L); met = met }

-- a net that refuses
abbrev pub net_refused : ℕ → ℕ → ℕ → NetRefused
net_refused net number detail = record { net = net; number = number; detail = detail }

pub data AnswerLaid (list : List ℕ) (stand : Stand) (end : ℕ) (a : Answer) (branches occupied planned owners kinds facings : List ℕ) (r : Result Stand NetRefused) (owners' kinds' facings' : List ℕ) : Type 0 where
  laid_one : (t : Tree) → a ≡ Ok t → (met : Option Meeting) → r ≡ Ok (further stand end t.lengths met)
      → SheetLaid (sheet_here list stand.place end) stand.net stand.met t.lengths (rest_of stand.used branches) occupied planned owners kinds facings met owners' kinds' facings'
      → AnswerLaid list stand end a branches occupied planned owners kinds facings r owners' kinds' facings'
  laid_none : (e : Refused) → a ≡ Err e → r ≡ Err (net_refused stand.net e.number e.detail)
      → AnswerLaid list stand end a branches occupied planned owners kinds facings r owners' kinds' facings'

pub further-by : (stand : Stand) (end : ℕ) (L : BranchLengths) (met : Option Meeting) {n : ℕ} → n ≡ sum (lengths_in L)
    → ◌≡◌ {A = Result Stand NetRefused} (Ok (record { place = end; net = stand.net + 1; used = stand.used + n; met = met })) (Ok (further stand end L met))
further-by stand end L met e = ap on e
  where
    on : ℕ → Result Stand NetRefused
    on m = Ok (record { place = end; net = stand.net + 1; used = stand.used + m; met = met })
