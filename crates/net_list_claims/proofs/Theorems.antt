-- SEVERAL NETS: what is known of a list that is routed net by net and laid into one room, from the definitions alone.
use Rattle.std.specs.Prelude.{◌≡◌, refl, ◌≢◌, Bool, true, false, List, [], ◌∷◌, ℕ, zero, suc, ◌+◌, ◌-◌, ◌≤◌, ◌<◌, length, get_or, take, Option, Some, None}
use Rattle.std.proofs.Common.{sym, ap, subst, ◌∙◌, arith}
use Rattle.std.proofs.Math.ListN.{get_or-eq_default}
use Rattle.basics.specs.Tests.{ask, ask_less, never}
use Rattle.basics.specs.Folds.{along}
use Rattle.room.specs.declared.Room.{Room}
use Rattle.room.specs.Room.{volume}
use Rattle.room.specs.Units.{air}
use Rattle.ground.specs.declared.Mode.{Mode}
use Rattle.routing_resources.specs.Marks.{is_marked}
use Rattle.job_sheet.specs.declared.Judgement.TheVariants as judgement
use Rattle.job_sheet.specs.Version.{version_in}
use Rattle.job_sheet.specs.Sheet.{Contents, Means, judged}
use Rattle.blocks.proofs.BlockLaws.{tabulated-long}
use Rattle.job_list.specs.declared.Memory.{Memory}
use Rattle.job_list.specs.Split.{first_sheet, sheets_of}
use Rattle.job_list.specs.Judged.{contents_at}
use Rattle.job_list.specs.GoodNets.{GoodNet, GoodFrom, good-list, good-room-is}
use Rattle.net_tree.specs.Answers.{routed, buffers_good, Comes, set_out}
use Rattle.laying.specs.Laying.{Net, Laid, laid_net}
use Rattle.laying.specs.Statements.{Keeps, NoRepeater, Unnamed}
use Rattle.nets.specs.Nets.{kinds_at, nodes_at, outset_at, lent_for, taken_by, all-kept, refused-by, routed_list}
use Rattle.laid_nets.specs.declared.Meeting.{Meeting}
use Rattle.laid_nets.specs.LaidNets.{room_at, LaidNets, unlaid, meeting_at, laid_nets}
use Rattle.list_routing.specs.Walk.{cells_of}
use Rattle.list_routing.specs.Walking.{room_of}
use Rattle.net_list_claims.specs.Statements.{net_in, sheet_in, Routed, LikeNet, reserved_for, KeptNet, AllKept, RefusedNet, AllDirected, PutsRepeater, StandsDirected, Occupies, FirstMeeting, OneRoom, MeetingTold, OwnersTold}
use Rattle.net_list_claims.proofs.RoutingLaws.{all_told, refused-told}
use Rattle.net_list_claims.specs.SingleLaws.{reserved-blocks}
use Rattle.net_list_claims.specs.OutcomeLaws.{net-long, net-directed}
use Rattle.net_list_claims.specs.SinkLaws.{sinks-directed}
use Rattle.net_list_claims.specs.StandingLaws.{repeaters_stand}
use Rattle.net_list_claims.proofs.MeetingLaws.{clash, marked-below, Whose, nobody's, its_own, Owned, Standing, all-standing, none-standing}
use Rattle.net_list_claims.proofs.AloneLaws.{like_set_out}
use Rattle.net_list_claims.specs.LaidLaws.{laid-along, unnamed-keep, full-keep}

-- ---- each net is a single job's

module _ (mode : Mode) (list : List ℕ) (buffer queue : ℕ) where
  -- "Each kept net equals the answer of a single job with the same resources"
  pub each-net-single : (nets : List Net) → routed_list mode list buffer queue ≡ all-kept nets → AllKept mode list buffer queue nets
  each-net-single = all_told mode list buffer queue

  -- "the first net that refuses ends the list", with its own number
  pub first-refusal : (k number detail : ℕ) → routed_list mode list buffer queue ≡ refused-by k number detail → RefusedNet mode list buffer queue k number detail
  first-refusal = refused-told mode list buffer queue

-- there is such a single job for each net
pub such_a_job : (list : List ℕ) (before : List Net) (k : ℕ) → LikeNet list before k (reserved_for list before k)
such_a_job list before k = let sheet = sheet_in list k in reserved-blocks (contents_at sheet) (kinds_at sheet) (nodes_at sheet) _

-- ---- number 17 can't occur

module _ {mode : Mode} {list : List ℕ} {buffer queue : ℕ} {nets : List Net} (k : ℕ) (T : KeptNet mode list buffer queue nets k) where
  abbrev sheet : List ℕ
  sheet = sheet_in list k

  abbrev taken : ℕ → Bool
  taken = taken_by (contents_at sheet).room (take k nets)

  abbrev left : ℕ
  left = buffer - length (cells_of (take k nets))

  -- over its own sheet's room
  kept-directed : {M : Memory} {F : Contents} {j : ℕ} → GoodNet M F j sheet → AllDirected (contents_at sheet).room (net_in nets k)
  kept-directed G = subst (AllDirected (contents_at sheet).room) (sym T.net-is) record { planned = net-directed mode list queue k taken left sheet T.outcome; power = sinks-directed G }

  kept-long : length (net_in nets k).occupied ≡ volume (contents_at sheet).room
  kept-long = ap (λ N. length N.occupied) T.net-is ∙ net-long mode list queue k taken left sheet T.outcome

-- each sheet of a good list is good
good-at : (M : Memory) (F : Contents) (k : ℕ) (sheets : List (List ℕ)) → GoodFrom M F k sheets → (i : ℕ) → i < length sheets → GoodNet M F (k + i) (get_or sheets i [])
good-at M F k [] G i h = absurd (omega arith)
good-at M F k (sheet ∷ sheets) G zero h = let z : k ≡ k + 0 = omega arith in subst (λ j. GoodNet M F j sheet) z G.0
good-at M F k (sheet ∷ sheets) G (suc i) h = let z : k + 1 + i ≡ k + suc i = omega arith in subst (λ j. GoodNet M F j (get_or sheets i [])) z (good-at M F (k + 1) sheets G.1 i (omega arith))

module _ {mode : Mode} {list : List ℕ} {buffer queue : ℕ} {nets : List Net} (T : Routed mode list buffer queue nets) where
  all : AllKept mode list buffer queue nets
  all = each-net-single mode list buffer queue nets T.kept

  net-good : (k : ℕ) → k < length nets → GoodNet T.memory (contents_at (first_sheet list)) (0 + k) (sheet_in list k)
  net-good k h = good-at T.memory (contents_at (first_sheet list)) 0 (sheets_of list) (good-list T.memory list T.none-due) k (omega (arith, all.count))

  room-at : (k : ℕ) → k < length nets → (contents_at (sheet_in list k)).room ≡ room_of list
  room-at k h = good-room-is (net-good k h)

  -- where a job like net k's has a sheet of its own, this net is what `route_net_tree` promises of that sheet
  pub answered-alone : (k : ℕ) (h : k < length nets) (K : Contents) → LikeNet list (take k nets) k K → (own : List ℕ) → Means own K → judged (version_in own) K ≡ judgement.Good
      → buffers_good K.room (lent_for K.room (buffer - length (cells_of (take k nets))) queue) ≡ true
      → Comes mode own (lent_for K.room (buffer - length (cells_of (take k nets))) queue) (routed (net_in nets k).branches (net_in nets k).occupied (net_in nets k).repeaters)
  answered-alone k h K W own means good lent =
      set_out K means good lent (outset_at (sheet_in list k)) (kinds_at (sheet_in list k)) (nodes_at (sheet_in list k)) _ (like_set_out (net-good k h) W)
      (ap (λ N. routed N.branches N.occupied N.repeaters) (all.each k h).net-is ∙ sym ((all.each k h).single K W))

  -- "Show that 17 can't occur for trees routed here": no repeater lacks a direction
  pub never_seventeen : (k : ℕ) → k < length nets → AllDirected (room_of list) (net_in nets k)
  never_seventeen k h = subst (λ R. AllDirected R (net_in nets k)) (room-at k h) (kept-directed k (all.each k h) (net-good k h))

  -- so in the laid room a repeater stands, with a direction, wherever a net puts one
  pub repeaters-directed : (k : ℕ) → k < length nets → (v : ℕ) → v < volume (room_of list) → PutsRepeater (net_in nets k) v
      → StandsDirected (laid_nets (room_of list) 0 nets (unlaid (room_of list) (room_at (first_sheet list)))).room v
  repeaters-directed k h v b p =
      subst (λ L. StandsDirected L v) (sym (laid-along (room_of list) 0 nets (unlaid (room_of list) (room_at (first_sheet list)))))
      (repeaters_stand (room_of list) v b nets never_seventeen k h p (room_at (first_sheet list)) record { kinds-long = tabulated-long _ _; facings-long = tabulated-long _ _ })

  -- each of its nets has a mark for each cell of the room, so that what follows is known of them
  pub routed-one-room : OneRoom (room_of list) nets
  routed-one-room = record { long = λ k h. kept-long k (all.each k h) ∙ ap volume (room-at k h) }

-- ---- where two nets meet, and whose the cells are

-- there is at most one first meeting
first_once : {nets : List Net} {k v j u : ℕ} → FirstMeeting nets k v → FirstMeeting nets j u → Some (meeting_at j u) ≡ Some (meeting_at k v)
first_once {nets} {k} {v} {j} {u} F G =
    ask_less k j (λ h. absurd (G.first.none k v h F.meets))
    (λ a. ask_less j k (λ h. absurd (F.first.none j u h G.meets))
    (λ b. let q : j ≡ k = omega arith in cells q (subst (λ i. FirstMeeting nets i u) q G)))
  where
    cells : j ≡ k → FirstMeeting nets k u → Some (meeting_at j u) ≡ Some (meeting_at k v)
    cells q H =
        ask_less u v (λ h. absurd (F.least u h H.meets))
        (λ a. ask_less v u (λ h. absurd (H.least v h F.meets)) (λ b. let s : u ≡ v = omega arith in cc))

module _ (R : Room) {nets : List Net} (one : OneRoom R nets) (room : Laid) where
  abbrev laid : LaidNets
  laid = laid_nets R 0 nets (unlaid R room)

  standing : Standing R nets laid.owners laid.met
  standing = all-standing R nets [] (unlaid R room) one.long (none-standing R)

  -- "16 with the cell where two nets overlap (first net to meet a lower one, its least such cell)"
  pub sixteen_means : MeetingTold nets laid.met
  sixteen_means = go laid.met standing
    where
      go : (met : Option Meeting) → Standing R nets laid.owners met → MeetingTold nets met
      go None S = record {
        meeting = λ k v. ((λ e. never (cc)), (λ F. absurd (S.apart.none k v F.net F.meets)));
        nowhere = ((λ e. S.apart), (λ A. refl));
      }
      go (Some m) F = record {
        meeting = λ k v. ((λ e. let q : m ≡ meeting_at k v = cc in subst (λ (x : Meeting). FirstMeeting nets x.net x.cell) q F), (λ G. first_once G F));
        nowhere = ((λ e. never (cc)), (λ A. absurd (A.none m.net m.cell F.net F.meets)));
      }

  -- where no two nets meet, "`owners` (V; 0 or net + 1)"
  pub owners_mean : laid.met ≡ None → OwnersTold R nets laid.owners
  owners_mean e = go (subst (Standing R nets laid.owners) e standing)
    where
      go : Owned R nets laid.owners → OwnersTold R nets laid.owners
      go S = record {
        long = S.long;
        owned = λ k v h. (is-owned k v h, owns k v h);
        nobody's = λ v. (is-nobody's v, nobody v);
        no_other = λ v. ask_less v (volume R) (λ b. few v (S.whose v b)) (λ b. rw (outside v b) (omega arith));
      }
        where
          outside : (v : ℕ) → volume R ≤ v → get_or laid.owners v 0 ≡ 0
          outside v b = get_or-eq_default laid.owners 0 {n = v} (omega (arith, S.long))

          inside : (k v : ℕ) → k < length nets → Occupies nets k v → v < volume R
          inside k v h o = omega (arith, marked-below (net_in nets k).occupied v o, one.long k h)

          few : (v : ℕ) → Whose nets laid.owners v → get_or laid.owners v 0 ≤ length nets
          few v (nobody's z none) = omega arith
          few v (its_own j l o z) = omega arith

          is-owned : (k v : ℕ) → k < length nets → get_or laid.owners v 0 ≡ k + 1 → Occupies nets k v
          is-owned k v h q = ask_less v (volume R) (λ b. on (S.whose v b)) (λ b. absurd (omega (arith, outside v b)))
            where
              on : Whose nets laid.owners v → Occupies nets k v
              on (nobody's z none) = absurd (omega arith)
              on (its_own j l o z) = let s : j ≡ k = omega arith in rw s at o

          owns : (k v : ℕ) → k < length nets → Occupies nets k v → get_or laid.owners v 0 ≡ k + 1
          owns k v h o = on (S.whose v (inside k v h o))
            where
              on : Whose nets laid.owners v → get_or laid.owners v 0 ≡ k + 1
              on (nobody's z none) = clash (none k h) o
              on (its_own j l p z) =
                  ask_less j k (λ b. absurd (S.apart.none k v h record { own = o; lower = j; before = b; too = p }))
                  (λ a. ask_less k j (λ b. absurd (S.apart.none j v l record { own = p; lower = k; before = b; too = o })) (λ b. omega arith))

          is-nobody's : (v : ℕ) → get_or laid.owners v 0 ≡ 0 → (k : ℕ) → k < length nets → is_marked (net_in nets k).occupied v ≡ false
          is-nobody's v z k h = ask (is_marked (net_in nets k).occupied v) (λ t. absurd (omega (arith, owns k v h t))) (λ f. f)

          nobody : (v : ℕ) → ((k : ℕ) → k < length nets → is_marked (net_in nets k).occupied v ≡ false) → get_or laid.owners v 0 ≡ 0
          nobody v n = ask_less v (volume R) (λ b. on (S.whose v b)) (outside v)
            where
              on : Whose nets laid.owners v → get_or laid.owners v 0 ≡ 0
              on (nobody's z none) = z
              on (its_own j l o z) = clash (n j l) o

-- ---- the laid room

module _ (R : Room) (nets : List Net) (room : Laid) where
  -- "net by net in list order, over the room of blocks with their facings"
  pub laid_in_order : (laid_nets R 0 nets (unlaid R room)).room ≡ along (laid_net R) nets room
  laid_in_order = laid-along R 0 nets (unlaid R room)

  -- what no net names keeps its kind and its facing
  pub unnamed_stay : (v : ℕ) → ((k : ℕ) → k < length nets → Unnamed R (net_in nets k) v) → Keeps room (laid_nets R 0 nets (unlaid R room)).room v
  unnamed_stay v u = subst (λ L. Keeps room L v) (sym laid_in_order) (unnamed-keep R v nets room u)

  -- and so does what is not Air, but where a net puts a repeater
  pub blocks_stay : (v : ℕ) → ((k : ℕ) → k < length nets → NoRepeater (net_in nets k) v) → get_or room.kinds v 0 ≢ air → Keeps room (laid_nets R 0 nets (unlaid R room)).room v
  blocks_stay v u n = subst (λ L. Keeps room L v) (sym laid_in_order) (full-keep R v nets room u n)
