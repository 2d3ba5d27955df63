-- Laws of routing a list: the nets so far are each its sheet's, and one net more is so too.
use Rattle.std.specs.Prelude.{◌≡◌, ℕ, ◌+◌, ◌-◌, ◌<◌, get_or, take}
use Rattle.std.proofs.Math.Path.{refl, sym, ap, subst}
use Rattle.std.proofs.Common.{◌∙◌, take_at}
use mathlib.Core.List.{List, [], ◌∷◌, ◌++◌}
use native.Mathlib.Omega.{arith}
use Rattle.std.proofs.Math.ListN.{length, length-append, get_or-append}
use Rattle.std.proofs.lemmas.List.{take-append-le, get_or_at}
use Rattle.std.proofs.Math.Seq.{append_snoc}
use Rattle.basics.specs.Tests.{ask_same}
use Rattle.basics.specs.Lists.{joined}
use Rattle.ground.specs.declared.Mode.{Mode}
use Rattle.job_sheet.specs.Sheet.{Contents}
use Rattle.net_tree.specs.Answers.{TreeOutcome, routed, no_tree}
use Rattle.job_list.specs.Split.{sheets_of}
use Rattle.job_list.specs.Judged.{contents_at}
use Rattle.laying.specs.Laying.{Net}
use Rattle.nets.specs.Nets.{net_outcome, taken_by, Routing, all-kept, refused-by, net_at, route_from, routed_list}
use Rattle.nets.specs.Theorems.{as_single}
use Rattle.list_routing.specs.Walk.{cells_of, cells-more, step-routed, step-refused}
use Rattle.net_list_claims.specs.Statements.{no_net, net_in, sheet_in, outcome_behind, LikeNet, single_outcome, KeptNet, AllKept, RefusedNet}

module _ (mode : Mode) (list : List ℕ) (buffer queue : ℕ) where
  -- what a sheet comes to in the list is what such a single job comes to
  single-is : (before : List Net) (k : ℕ) {o : TreeOutcome} → outcome_behind mode list buffer queue before k ≡ o
      → (K : Contents) → LikeNet list before k K → single_outcome mode list buffer queue before k K ≡ o
  single-is before k e K W = as_single mode list queue k (buffer - length (cells_of before)) (taken_by (contents_at (sheet_in list k)).room before) (sheet_in list k) K W ∙ e

  pub kept-net : (nets before : List Net) (k : ℕ) → take k nets ≡ before → {bs : List (List ℕ)} {occupied repeaters : List ℕ}
      → net_in nets k ≡ net_at (sheet_in list k) bs occupied repeaters
      → outcome_behind mode list buffer queue before k ≡ routed bs occupied repeaters → KeptNet mode list buffer queue nets k
  kept-net nets before k t {bs} {occupied} {repeaters} n e =
      let o : outcome_behind mode list buffer queue (take k nets) k ≡ routed bs occupied repeaters = ap (λ l. outcome_behind mode list buffer queue l k) t ∙ e in
      record { branches = bs; occupied = occupied; repeaters = repeaters; net-is = n; outcome = o; single = single-is (take k nets) k o }

  -- the nets so far, with those sheets that are theirs and those that are left
  record SoFar (nets : List Net) (done left : List (List ℕ)) : Type 0 where
    pub all : sheets_of list ≡ done ++ left
    pub count : length nets ≡ length done
    pub each : (k : ℕ) → k < length nets → KeptNet mode list buffer queue nets k

  abbrev Told : Routing → Type 0
  Told (all-kept nets) = AllKept mode list buffer queue nets
  Told (refused-by k number detail) = RefusedNet mode list buffer queue k number detail

  -- a net that was kept is so with one more behind
  kept_on : (nets : List Net) (N : Net) (k : ℕ) → k < length nets → KeptNet mode list buffer queue nets k → KeptNet mode list buffer queue (nets ++ (N ∷ [])) k
  kept_on nets N k h T =
      kept-net (nets ++ (N ∷ [])) (take k nets) k (take-append-le k nets (N ∷ []) (omega arith))
      (get_or-append nets (N ∷ []) no_net k h ∙ T.net-is) T.outcome

  module _ (nets : List Net) (done : List (List ℕ)) (sheet : List ℕ) (left : List (List ℕ)) (S : SoFar nets done (sheet ∷ left)) where
    sheet-here : sheet_in list (length nets) ≡ sheet
    sheet-here = ap (λ l. get_or l (length nets) []) S.all ∙ get_or_at done sheet left [] (length nets) (sym S.count)

    here : {o : TreeOutcome} → net_outcome mode list queue (length nets) (taken_by (contents_at sheet).room nets) (buffer - length (cells_of nets)) sheet ≡ o
        → outcome_behind mode list buffer queue nets (length nets) ≡ o
    here e = ap (λ s. net_outcome mode list queue (length nets) (taken_by (contents_at s).room nets) (buffer - length (cells_of nets)) s) sheet-here ∙ e

    more : {bs : List (List ℕ)} {occupied repeaters : List ℕ}
        → net_outcome mode list queue (length nets) (taken_by (contents_at sheet).room nets) (buffer - length (cells_of nets)) sheet ≡ routed bs occupied repeaters
        → SoFar (nets ++ (net_at sheet bs occupied repeaters ∷ [])) (done ++ (sheet ∷ [])) left
    more {bs} {occupied} {repeaters} e = record {
      all = S.all ∙ sym (append_snoc done sheet left);
      count = length-append nets (N ∷ []) ∙ ap (λ n. n + 1) S.count ∙ sym (length-append done (sheet ∷ []));
      each = λ k h. ask_same k (length nets) (λ q. subst (λ j. KeptNet mode list buffer queue (nets ++ (N ∷ [])) j) (sym q) last)
          (λ d. let b : k < length nets = omega (arith, d, length-append nets (N ∷ [])) in kept_on nets N k b (S.each k b));
    }
      where
        N : Net
        N = net_at sheet bs occupied repeaters

        last : KeptNet mode list buffer queue (nets ++ (N ∷ [])) (length nets)
        last =
            kept-net (nets ++ (N ∷ [])) nets (length nets) (take_at nets (N ∷ []) (length nets) refl)
            (get_or_at nets N [] no_net (length nets) refl ∙ ap (λ s. net_at s bs occupied repeaters) (sym sheet-here)) (here e)

    refused : {number detail : ℕ}
        → net_outcome mode list queue (length nets) (taken_by (contents_at sheet).room nets) (buffer - length (cells_of nets)) sheet ≡ no_tree number detail
        → RefusedNet mode list buffer queue (length nets) number detail
    refused e = record {
      before = nets;
      count = refl;
      below = omega (arith, ap length S.all, length-append done (sheet ∷ left), S.count);
      each = S.each;
      outcome = here e;
      single = single-is nets (length nets) (here e);
    }

  from-here : (left : List (List ℕ)) (nets : List Net) (done : List (List ℕ)) → SoFar nets done left
      → (r : Routing) → route_from mode list queue (length nets) nets (buffer - length (cells_of nets)) left ≡ r → Told r
  unfolding route_from
  from-here [] nets done S r e = subst Told e record { count = S.count ∙ sym (ap length S.all ∙ length-append done [] ∙ (let z : length done + 0 ≡ length done = omega arith in z)); each = S.each }
  from-here (sheet ∷ left) nets done S r e = go _ refl (λ N T q. from-here left (nets ++ (N ∷ [])) (done ++ (sheet ∷ [])) T r q)
    where
      go : (o : TreeOutcome) → net_outcome mode list queue (length nets) (taken_by (contents_at sheet).room nets) (buffer - length (cells_of nets)) sheet ≡ o
          → ((N : Net) → SoFar (nets ++ (N ∷ [])) (done ++ (sheet ∷ [])) left
          → route_from mode list queue (length (nets ++ (N ∷ []))) (nets ++ (N ∷ [])) (buffer - length (cells_of (nets ++ (N ∷ [])))) left ≡ r → Told r)
          → Told r
      go (routed bs occupied repeaters) q rest =
          let N : Net = net_at sheet bs occupied repeaters in
          let number : length (nets ++ (N ∷ [])) ≡ length nets + 1 = length-append nets (N ∷ []) in
          let cells : buffer - length (cells_of (nets ++ (N ∷ []))) ≡ buffer - length (cells_of nets) - length (joined bs) =
          omega (arith, ap length (cells-more nets N), length-append (cells_of nets) (joined bs)) in
          rest N (more nets done sheet left S q)
          ((λ i. route_from mode list queue (number i) (nets ++ (N ∷ [])) (cells i) left) ∙ sym (step-routed mode list queue (length nets) nets (buffer - length (cells_of nets)) sheet left q) ∙ e)
      go (no_tree number detail) q rest =
          subst Told (sym (step-refused mode list queue (length nets) nets (buffer - length (cells_of nets)) sheet left q) ∙ e) (refused nets done sheet left S q)

  -- what a routed list comes to, net by net
  pub list-told : (r : Routing) → routed_list mode list buffer queue ≡ r → Told r
  unfolding routed_list cells_of
  list-told r e =
      let whole : buffer - 0 ≡ buffer = omega arith in
      from-here (sheets_of list) [] [] record { all = refl; count = refl; each = λ k h. absurd (omega arith) } r ((λ i. route_from mode list queue 0 [] (whole i) (sheets_of list)) ∙ e)

  pub all_told : (nets : List Net) → routed_list mode list buffer queue ≡ all-kept nets → AllKept mode list buffer queue nets
  all_told nets e = list-told (all-kept nets) e

  pub refused-told : (k number detail : ℕ) → routed_list mode list buffer queue ≡ refused-by k number detail → RefusedNet mode list buffer queue k number detail
  refused-told k number detail e = list-told (refused-by k number detail) e
