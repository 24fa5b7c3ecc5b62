-- The rule as the steps use it: all that it says of a view, by the view's role.
use Rattle.std.proofs.Common.{◌≡◌, ℕ, suc, ◌≤◌, Option, List, [], ◌∷◌, length, refl, ap, ◌∙◌, subst, Some, None}
use mathlib.Core.Option as maybe
use mathlib.Core.Option.{none, some}
use mathlib.Core.List.{IsPrefix}
use lib.ListN.{get_elem?}
use Rattle.atomic_table.specs.Table.{State, Me, Allows}
use Rattle.lt_turn.specs.declared.view.View.{View}
use Rattle.lt_turn.specs.declared.view.Role.{Role}
use Rattle.lt_turn.specs.declared.view.Role.TheVariants.{Vacant, Note, Idle, Holding, Level, Shut, Spent}
use Rattle.lt_turn.specs.Lists.{of, Every, Differ, numbers}
use Rattle.lt_turn.specs.Rule.{Desk, free, held, level, vacant, shut, IsOpen, LockFits, HasAs, Sees, Owns, SeesAs, OwnsAs, KnowsAll, DeskFits, HomeUnlessLevel, HomeStands, Stocked, Kept}

same_words : (ws : List ℕ) (lock lock' count n : ℕ) → ws ≡ lock ∷ count ∷ [] → ws ≡ lock' ∷ n ∷ [] → ws ≡ lock ∷ n ∷ []
same_words ws lock lock' count n a b = cc (a, b)

module _ {X : Type 0} where
  -- one view has seen the whole list, or was told of it
  abbrev pub Whole : List (ℕ × X) → List (View X) → Type 0
  Whole log views = (i : ℕ) × (v : View X) × (get_elem? views i ≡ some v) × KnowsAll log v

  -- a view in use
  pub record Sits (log : List (ℕ × X)) (owner : ℕ → ℕ) (i : ℕ) (v : View X) : Type 0 where
    pub seen : IsPrefix v.seen log
    pub told : IsPrefix v.told log
    pub opening : of 0 v.seen ≡ of 0 log
    pub own : of (suc i) log ≡ v.mine
    pub own_seen : of (suc i) v.seen ≡ v.mine
    pub ended : Every (λ e. (of e.0 log ≡ e.1) × (owner e.0 ≡ i)) v.ended
    pub apart : Differ (0 ∷ suc i ∷ numbers v.ended)
    pub owner_is : owner (suc i) ≡ i

  abbrev pub FitsAs : Role → Desk → List (ℕ × X) → (ℕ → ℕ) → ℕ → View X → Type 0
  FitsAs Vacant desk log owner i v = (desk ≡ vacant i) × Sits log owner i v × (v.number ≡ suc i)
  FitsAs Note desk log owner i v = IsOpen desk × Sits log owner i v
  FitsAs Idle desk log owner i v = IsOpen desk × Sits log owner i v × (v.number ≡ suc i)
  FitsAs Holding desk log owner i v = (desk ≡ held i) × Sits log owner i v × (v.number ≡ suc i)
  FitsAs Level desk log owner i v = (desk ≡ level i) × Sits log owner i v × (v.number ≡ suc i) × (v.seen ≡ log)
  FitsAs Shut desk log owner i v = (desk ≡ shut i) × Sits log owner i v × (v.number ≡ suc i)
  FitsAs Spent desk log owner i v = Unit {0}

  sees : (log : List (ℕ × X)) (owner : ℕ → ℕ) (i : ℕ) (v : View X) → Sits log owner i v → Sees log v
  sees log owner i v s = record { seen = s.seen; told = s.told; opening = s.opening }

  owns : (log : List (ℕ × X)) (owner : ℕ → ℕ) (i : ℕ) (v : View X) → Sits log owner i v → Owns log owner i v
  owns log owner i v s = record { own = s.own; own_seen = s.own_seen; ended = s.ended; apart = s.apart; owner_is = s.owner_is }

  sits : (log : List (ℕ × X)) (owner : ℕ → ℕ) (i : ℕ) (v : View X) → Sees log v → Owns log owner i v → Sits log owner i v
  sits log owner i v s o = record { seen = s.seen; told = s.told; opening = s.opening; own = o.own; own_seen = o.own_seen; ended = o.ended; apart = o.apart; owner_is = o.owner_is }

  -- what the facts say of one view
  abbrev Four : Role → Desk → List (ℕ × X) → (ℕ → ℕ) → ℕ → View X → Type 0
  Four r desk log owner i v = HasAs r i desk × SeesAs r log v × OwnsAs r log owner i v × (r ≡ Level → (desk ≡ level i) × (v.seen ≡ log))

  by_facts : (r : Role) (desk : Desk) (log : List (ℕ × X)) (owner : ℕ → ℕ) (i : ℕ) (v : View X) → Four r desk log owner i v → FitsAs r desk log owner i v
  by_facts Vacant desk log owner i v f = (f.0, sits log owner i v f.1 f.2.0, f.2.1)
  by_facts Note desk log owner i v f = (f.0, sits log owner i v f.1 f.2)
  by_facts Idle desk log owner i v f = (f.0, sits log owner i v f.1 f.2.0, f.2.1)
  by_facts Holding desk log owner i v f = (f.0, sits log owner i v f.1 f.2.0, f.2.1)
  by_facts Level desk log owner i v f = (f.0, sits log owner i v f.1 f.2.0, f.2.1, (f.3 refl).1)
  by_facts Shut desk log owner i v f = (f.0, sits log owner i v f.1 f.2.0, f.2.1)
  by_facts Spent desk log owner i v f = tt

  facts : (r : Role) (desk : Desk) (log : List (ℕ × X)) (owner : ℕ → ℕ) (i : ℕ) (v : View X) → FitsAs r desk log owner i v → Four r desk log owner i v
  facts Vacant desk log owner i v f = (f.0, sees log owner i v f.1, (owns log owner i v f.1, f.2), (λ e. absurd (cc e)))
  facts Note desk log owner i v f = (f.0, sees log owner i v f.1, owns log owner i v f.1, (λ e. absurd (cc e)))
  facts Idle desk log owner i v f = (f.0, sees log owner i v f.1, (owns log owner i v f.1, f.2), (λ e. absurd (cc e)))
  facts Holding desk log owner i v f = (f.0, sees log owner i v f.1, (owns log owner i v f.1, f.2), (λ e. absurd (cc e)))
  facts Level desk log owner i v f = (f.0, sees log owner i v f.1, (owns log owner i v f.1, f.2), (λ e. (f.0, f.3)))
  facts Shut desk log owner i v f = (f.0, sees log owner i v f.1, (owns log owner i v f.1, f.2), (λ e. absurd (cc e)))
  facts Spent desk log owner i v f = (tt, tt, tt, (λ e. absurd (cc e)))

module _ {H T X : Type 0} (stands : T → List X → Type 0) (value : H → Option T) (book : H → ℕ) where
  abbrev pub HomeFits : Desk → List (ℕ × X) → maybe.Option (Option H) → Type 0
  HomeFits free log home = (slot : Option H) × (home ≡ some slot) × Stocked stands value book log slot
  HomeFits (held i) log home = (slot : Option H) × (home ≡ some slot) × Stocked stands value book log slot
  HomeFits (level i) log home = home ≡ none
  HomeFits (vacant i) log home = home ≡ some None
  HomeFits (shut i) log home = home ≡ some None

  pub record ByRole (s : State (Option H) (View X)) : Type 0 where
    pub log : List (ℕ × X)
    pub desk : Desk
    pub owner : ℕ → ℕ
    pub lock : ℕ
    pub home : maybe.Option (Option H)
    pub words : s.words ≡ lock ∷ length log ∷ []
    pub homes : s.homes ≡ home ∷ []
    pub lock_fits : LockFits desk lock
    pub desk_fits : DeskFits desk s.views
    pub home_fits : HomeFits desk log home
    pub views_fit : (i : ℕ) (v : View X) → get_elem? s.views i ≡ some v → FitsAs v.role desk log owner i v
    pub whole : Whole log s.views
    pub fresh : (i : ℕ) → length s.views ≤ i → (of (suc i) log ≡ []) × (owner (suc i) ≡ i)

  abbrev Homes : Type 0
  Homes = List (maybe.Option (Option H))

  home_of : (desk : Desk) (log : List (ℕ × X)) (homes : Homes) → HomeStands stands value book log homes → HomeUnlessLevel desk homes → (home : maybe.Option (Option H)) × (homes ≡ home ∷ []) × HomeFits desk log home
  home_of free log homes h u = (some (Some u.0), u.1, (Some u.0, refl, h u.0 u.1))
  home_of (held i) log homes h u = (some (Some u.0), u.1, (Some u.0, refl, h u.0 u.1))
  home_of (level i) log homes h u = (none, u, refl)
  home_of (vacant i) log homes h u = (some None, u, refl)
  home_of (shut i) log homes h u = (some None, u, refl)

  at_home : (desk : Desk) (log : List (ℕ × X)) (home : maybe.Option (Option H)) (homes : Homes) → homes ≡ home ∷ [] → HomeFits desk log home → HomeUnlessLevel desk homes
  at_home free log home homes is f = (f.2.inside, is ∙ ap (λ (h : maybe.Option (Option H)). h ∷ []) (f.1 ∙ ap some f.2.is))
  at_home (held i) log home homes is f = (f.2.inside, is ∙ ap (λ (h : maybe.Option (Option H)). h ∷ []) (f.1 ∙ ap some f.2.is))
  at_home (level i) log home homes is f = is ∙ ap (λ (h : maybe.Option (Option H)). h ∷ []) f
  at_home (vacant i) log home homes is f = is ∙ ap (λ (h : maybe.Option (Option H)). h ∷ []) f
  at_home (shut i) log home homes is f = is ∙ ap (λ (h : maybe.Option (Option H)). h ∷ []) f

  same_slot : (home : maybe.Option (Option H)) (homes : Homes) (slot : Option H) (h : H) → homes ≡ home ∷ [] → home ≡ some slot → homes ≡ some (Some h) ∷ [] → slot ≡ Some h
  same_slot home homes slot h is at e = cc (is, at, e)

  stands_at : (desk : Desk) (log : List (ℕ × X)) (home : maybe.Option (Option H)) (homes : Homes) → homes ≡ home ∷ [] → HomeFits desk log home → HomeStands stands value book log homes
  stands_at free log home homes is f h e = subst (λ (o : Option H). Stocked stands value book log o) (same_slot home homes f.0 h is f.1 e) f.2
  stands_at (held i) log home homes is f h e = subst (λ (o : Option H). Stocked stands value book log o) (same_slot home homes f.0 h is f.1 e) f.2
  stands_at (level i) log home homes is f h e = absurd (cc (is, f, e))
  stands_at (vacant i) log home homes is f h e = absurd (cc (same_slot home homes None h is f e))
  stands_at (shut i) log home homes is f h e = absurd (cc (same_slot home homes None h is f e))

  pub by_role : (s : State (Option H) (View X)) → Kept stands value book s → ByRole s
  by_role s k =
      let m = k.mutual_exclusion in
      let o = k.one_list in
      let a = home_of k.desk k.log s.homes k.home_stands k.home_unless_level in
      record {
        log = k.log;
        desk = k.desk;
        owner = k.owner;
        lock = m.lock;
        home = a.0;
        words = same_words s.words m.lock o.lock m.count (length k.log) m.words_are o.words_are;
        homes = a.1;
        lock_fits = m.fits;
        desk_fits = m.there;
        home_fits = a.2;
        views_fit = λ i v at. by_facts v.role k.desk k.log k.owner i v (m.one_at_most i v at, o.begins i v at, k.numbers_apart.accounted i v at, k.level_sees_all i v at);
        whole = o.longest;
        fresh = k.numbers_apart.fresh;
      }

  pub kept : (s : State (Option H) (View X)) → ByRole s → Kept stands value book s
  kept s k =
      let four : (i : ℕ) (v : View X) → get_elem? s.views i ≡ some v → Four v.role k.desk k.log k.owner i v = λ i v at. facts v.role k.desk k.log k.owner i v (k.views_fit i v at) in
      record {
        log = k.log;
        desk = k.desk;
        owner = k.owner;
        mutual_exclusion = record { lock = k.lock; count = length k.log; words_are = k.words; fits = k.lock_fits; one_at_most = λ i v at. (four i v at).0; there = k.desk_fits };
        one_list = record { lock = k.lock; words_are = k.words; begins = λ i v at. (four i v at).1; longest = k.whole };
        home_stands = stands_at k.desk k.log k.home s.homes k.homes k.home_fits;
        home_unless_level = at_home k.desk k.log k.home s.homes k.homes k.home_fits;
        numbers_apart = record { accounted = λ i v at. (four i v at).2; fresh = k.fresh };
        level_sees_all = λ i v at. (four i v at).3;
      }

  -- a step that keeps the one form keeps the other
  pub allowed : (slots id : ℕ) (m : Me (Option H) (View X)) (word : ℕ) (f : ℕ → ℕ) (then : ℕ → Me (Option H) (View X) → Type 0) → Allows ByRole slots id m word f then → Allows (Kept stands value book) slots id m word f then
  allowed slots id m word f then a s k len at small =
      let r = a s (by_role s k) len at small in
      (r.0, r.1, r.2, kept _ r.3, r.4)
