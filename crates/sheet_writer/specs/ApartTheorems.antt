-- What taking a sheet apart comes to: its lists are those of the sheet's contents, so that the writer gives the sheet back.
use Rattle.std.specs.Prelude.{◌≡◌, true, List, ℕ, drop}
use Rattle.std.proofs.Common.{sym, ◌∙◌}
use Rattle.std.proofs.Math.Path.{ap}
use Rattle.numbers.specs.Refusals.{done_number}
use Rattle.basics.specs.Tests.{ask}
use Rattle.basics.specs.Lists.{joined}
use Rattle.basics.specs.Promises.{Determines}
use Rattle.lent.specs.Lent.{filled, output_after}
use Rattle.job_sheet.specs.declared.Part.{Part}
use Rattle.job_sheet.specs.declared.Reading.{Reading}
use Rattle.job_sheet.specs.Sheet.{job_of, is_good}
use Rattle.job_sheet.specs.Places.{block_in, position_in, blocks_in, positions_in}
use Rattle.job_sheet.proofs.FaultLaws.{many_map}
use Rattle.job_sheet.specs.Accepted.{Accepted}
use Rattle.job_sheet.proofs.Theorems.{accepted-by, usable, coincide as one-reading}
use Rattle.sheet_writer.specs.declared.Records.TheVariants.{Blocks, Positions}
use Rattle.sheet_writer.specs.declared.apart.Taking.{Taking}
use Rattle.sheet_writer.specs.Writer.{numbers_of_block, numbers_of_position, block_list, position_list, parts_of}
use Rattle.sheet_writer.specs.Theorems.{not_done}
use Rattle.sheet_writer.specs.Apart.{list_in, Lists, lengths_lent, taken_number, TakesApart}

module _ (s : List ℕ) (p : Part) where
  blocks-listed : list_in Blocks s p ≡ block_list (blocks_in s p)
  unfolding list_in block_list blocks_in
  blocks-listed = ap joined (many_map numbers_of_block (block_in p.long) p.size p.count (drop p.from s))

  positions-listed : list_in Positions s p ≡ position_list (positions_in s p)
  unfolding list_in position_list positions_in
  positions-listed = ap joined (many_map numbers_of_position (λ l. position_in p.long l 0) p.size p.count (drop p.from s))

-- where no number came back, the sheet is accepted, and run limit, lists and sinks are its contents' parts, lists with zeros behind them
pub record PartsTaken (sheet : List ℕ) (B : Lists) (r : Taking) (B' : Lists) : Type 0 where
  pub accepted : Accepted sheet r.job
  pub run : r.job.run ≡ (parts_of accepted.contents).run
  pub sinks : r.job.sinks ≡ (parts_of accepted.contents).sinks
  pub blocks : B'.blocks ≡ filled (parts_of accepted.contents).blocks B.blocks
  pub conductors : B'.conductors ≡ filled (parts_of accepted.contents).conductors B.conductors
  pub clearances : B'.clearances ≡ filled (parts_of accepted.contents).clearances B.clearances
  pub terminals : B'.terminals ≡ filled (parts_of accepted.contents).terminals B.terminals
  pub reserved : B'.reserved ≡ filled (parts_of accepted.contents).reserved B.reserved

read-well : (q : Reading) (B : Lists) → taken_number q (lengths_lent B) ≡ done_number → is_good q.judgement ≡ true
unfolding taken_number
read-well q B e = ask (is_good q.judgement) (λ t. t) (λ f. absurd (not_done q.judgement f (rw f at e)))

pub parts-taken : (sheet : List ℕ) (B : Lists) (r : Taking) (B' : Lists) → TakesApart sheet B r B' → r.number ≡ done_number → PartsTaken sheet B r B'
unfolding parts_of job_of
parts-taken sheet B r B' T d =
    let q = T.reading in
    let A : Accepted sheet q.job = accepted-by T.read (read-well q B (sym T.number_is ∙ d)) in
    let U = usable sheet q.job A in
    let A' : Accepted sheet r.job = record { contents = A.contents; means = A.means; good = A.good; is = T.job_is ∙ A.is } in
    record {
      accepted = A';
      run = ap (λ j. j.run) A'.is;
      sinks = ap (λ j. j.sinks) A'.is;
      blocks = T.blocks-are ∙ ap (λ n. output_after n (list_in Blocks sheet q.job.blocks) B.blocks) d ∙ ap (λ l. filled l B.blocks) (blocks-listed sheet q.job.blocks ∙ ap block_list U.blocks.are);
      conductors = T.conductors-are ∙ ap (λ n. output_after n (list_in Positions sheet q.job.conductors) B.conductors) d ∙ ap (λ l. filled l B.conductors) (positions-listed sheet q.job.conductors ∙ ap position_list U.conductors.are);
      clearances = T.clearances-are ∙ ap (λ n. output_after n (list_in Positions sheet q.job.clearances) B.clearances) d ∙ ap (λ l. filled l B.clearances) (positions-listed sheet q.job.clearances ∙ ap position_list U.clearances.are);
      terminals = T.terminals-are ∙ ap (λ n. output_after n (list_in Positions sheet q.job.terminals) B.terminals) d ∙ ap (λ l. filled l B.terminals) (positions-listed sheet q.job.terminals ∙ ap position_list U.terminals.are);
      reserved = T.reserved-are ∙ ap (λ n. output_after n (list_in Positions sheet q.job.reserved) B.reserved) d ∙ ap (λ l. filled l B.reserved) (positions-listed sheet q.job.reserved ∙ ap position_list U.reserved.are);
    }

-- every sheet and every length of the lists determine the answer and each list
pub record Result : Type 0 where
  pub taking : Taking
  pub out : Lists

module _ (sheet : List ℕ) (B : Lists) where
  abbrev pub Keeps : Result → Type 0
  Keeps r = TakesApart sheet B r.taking r.out

  pub coincide : Determines Keeps
  coincide x y a b =
      let q : a.reading ≡ b.reading = one-reading sheet a.reading b.reading a.read b.read in
      let n : x.taking.number ≡ y.taking.number = a.number_is ∙ ap (λ r. taken_number r (lengths_lent B)) q ∙ sym b.number_is in
      let j : x.taking.job ≡ y.taking.job = a.job_is ∙ ap (λ r. r.job) q ∙ sym b.job_is in
      λ i. record {
        taking = record { number = n i; job = j i };
        out = record {
          blocks = (a.blocks-are ∙ (λ h. output_after (n h) (list_in Blocks sheet (q h).job.blocks) B.blocks) ∙ sym b.blocks-are) i;
          conductors = (a.conductors-are ∙ (λ h. output_after (n h) (list_in Positions sheet (q h).job.conductors) B.conductors) ∙ sym b.conductors-are) i;
          clearances = (a.clearances-are ∙ (λ h. output_after (n h) (list_in Positions sheet (q h).job.clearances) B.clearances) ∙ sym b.clearances-are) i;
          terminals = (a.terminals-are ∙ (λ h. output_after (n h) (list_in Positions sheet (q h).job.terminals) B.terminals) ∙ sym b.terminals-are) i;
          reserved = (a.reserved-are ∙ (λ h. output_after (n h) (list_in Positions sheet (q h).job.reserved) B.reserved) ∙ sym b.reserved-are) i;
        };
      }
