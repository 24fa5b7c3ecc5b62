-- Tickets go out and come back.
use Rattle.std.proofs.Common.{◌≡◌, ◌⊎◌, ℕ, ◌+◌, ◌≤◌, Bool, true, false, List, [], ◌∷◌, ◌++◌, map, length, Contains, refl, sym, ◌∙◌, ap, subst, ⊎_elim, arith, eq-eqb}
use Rattle.std.proofs.lemmas.List.Elements.{Contains-push_cases}
use Rattle.std.specs.Prelude.{not, nat_eq, filter, cond}
use Rattle.std.specs.List.Sorted.{IsStrictlyIncreasing}
use Rattle.std.proofs.lemmas.List.Kept.{IsStrictlyIncreasing-filter}
use Rattle.lt_trace.specs.Elements.{Noted, Began, Element, history_of, notes_of, is_noted}
use Rattle.lt_model.specs.History.{History}
use Rattle.lt_model.proofs.Verdicts.{Contains-cons_cases}
use Rattle.lt_trace.proofs.Lists.{kept_was}
use Rattle.lt_state.specs.State.{Core, Ticket, IsOwn}
use Rattle.lt_state.specs.Facts.{IsSafe}
use Rattle.lt_state.specs.Stands.{Reads, LentSince, AreBelow, IsLent, AreTickets, Stands, files_used, lent_out}
use Rattle.lt_events.specs.Cores.{with_ticket, without, IsFree}
use Rattle.lt_events.specs.Laws.{TicketStands, ReleaseStands}

-- ---- what does not look at tickets

module _ (c : Core) (next_ticket : ℕ) (tickets : List Ticket) where
  abbrev pub other : Core
  other = record c { next_ticket = next_ticket; tickets = tickets }

  pub reads_same : (h : History) → Reads c h → Reads other h
  reads_same h reads = record { next_is = reads.next_is; low_is = reads.low_is; ttl_is = reads.ttl_is; schemas_are = reads.schemas_are; kept_is = reads.kept_is; next_tablet_is = reads.next_tablet_is }

  pub lent_same : (told : Bool) (began : Began) (since : List Element) → files_used since + lent_out tickets + began.free ≤ c.next_file → LentSince told c began since → LentSince told other began since
  lent_same told began since room lent = record { more = lent.more; lends = lent.lends; next_file = lent.next_file; none = lent.none; some = lent.some; used = omega (arith, room, lent.next_file) }

  pub below_same : (notes : List Noted) (since : List Element) → AreBelow c notes since → AreBelow other notes since
  below_same notes since files = record { ceiling = files.ceiling; noted = files.noted; named = files.named; frees = files.frees; freed = files.freed; most = files.most }

  pub safe_same : (told : Bool) (h : History) (notes : List Noted) (began : Began) → IsSafe told c h notes began → IsSafe told other h notes began
  safe_same told h notes began safe = record { recs = safe.recs; noted = safe.noted; tablets = safe.tablets; facts = safe.facts; legal = safe.legal; begun = safe.begun; past = safe.past }

  pub is_lent_same : (notes : List Noted) (file : ℕ) → IsLent c notes file → IsLent other notes file
  is_lent_same notes file is = record { below = is.below; unnoted = is.unnoted; unnamed = is.unnamed }

  pub stands_same : (told : Bool) (h : History) (notes : List Noted) (began : Began) (since : List Element) → AreTickets other notes → files_used since + lent_out tickets + began.free ≤ c.next_file → Stands told c h notes began since → Stands told other h notes began since
  stands_same told h notes began since are room stands =
      let own : IsOwn c stands.own.0 = stands.own.2 in
      record {
        reads = reads_same h stands.reads;
        opened = stands.opened;
        follows = stands.follows;
        memory = stands.memory;
        tablets = stands.tablets;
        dependencies = stands.dependencies;
        own = (stands.own.0, stands.own.1, record { kept = own.kept; low = own.low; ttl = own.ttl; schemas = own.schemas; tablets = own.tablets });
        some = stands.some;
        listed = stands.listed;
        once = stands.once;
        lent = lent_same told began since room stands.lent;
        files = below_same notes since stands.files;
        tickets = are;
        count_is = stands.count_is;
        safe = safe_same told h notes began stands.safe;
      }

-- ---- a ticket goes out

lent_out-push : (tickets : List Ticket) (ticket : Ticket) → lent_out (tickets ++ ticket ∷ []) ≡ lent_out tickets + length ticket.lent
lent_out-push [] ticket = omega arith
lent_out-push (t ∷ tickets) ticket = omega (arith, lent_out-push tickets ticket)

module _ (c : Core) (notes : List Noted) (ticket : Ticket) (tickets : AreTickets c notes) (number : ticket.number ≡ c.next_ticket)
    (free : (file : ℕ) → Contains ticket.lent file → IsFree c notes file) (handed : (file : ℕ) → Contains ticket.handed file → is_noted notes file ≡ true) where
  abbrev all : List Ticket
  all = c.tickets ++ ticket ∷ []

  out : (t : Ticket) → Contains all t → Contains c.tickets t ⊎ (ticket ≡ t)
  out t among = Contains-push_cases c.tickets ticket t among

  one_ticket : (a b : Ticket) (file : ℕ) → Contains all a → Contains all b → Contains a.lent file → Contains b.lent file → a ≡ b
  one_ticket a b file in_a in_b of_a of_b = ⊎_elim
      (λ a_was. ⊎_elim
      (λ b_was. tickets.apart a b file a_was b_was of_a of_b)
      (λ b_new. absurd ((free file (subst (λ (t : Ticket). Contains t.lent file) (sym b_new) of_b)).apart a a_was of_a))
      (out b in_b))
      (λ a_new. ⊎_elim
      (λ b_was. absurd ((free file (subst (λ (t : Ticket). Contains t.lent file) (sym a_new) of_a)).apart b b_was of_b))
      (λ b_new. sym a_new ∙ b_new)
      (out b in_b))
      (out a in_a)

  pub tickets_more : IsStrictlyIncreasing (map (λ t. t.number) all) → IsStrictlyIncreasing ticket.lent → AreTickets (with_ticket c ticket) notes
  tickets_more rising once = record {
    rising = rising;
    below = λ t among. ⊎_elim (λ was. omega (arith, tickets.below t was)) (λ new. omega (arith, number, ap (λ (x : Ticket). x.number) new)) (out t among);
    once = λ t among. ⊎_elim (λ was. tickets.once t was) (λ new. subst (λ (x : Ticket). IsStrictlyIncreasing x.lent) new once) (out t among);
    lent = λ t file among covers. ⊎_elim
        (λ was. is_lent_same c (c.next_ticket + 1) all notes file (tickets.lent t file was covers))
        (λ new. is_lent_same c (c.next_ticket + 1) all notes file (free file (subst (λ (x : Ticket). Contains x.lent file) (sym new) covers)).lent)
        (out t among);
    apart = one_ticket;
    handed = λ t file among covers. ⊎_elim (λ was. tickets.handed t file was covers) (λ new. handed file (subst (λ (x : Ticket). Contains x.handed file) (sym new) covers)) (out t among);
  }

pub ticket_stands : TicketStands
ticket_stands told c s ticket stands number rising once room free handed =
    stands_same c (c.next_ticket + 1) (c.tickets ++ ticket ∷ []) told (history_of s) (notes_of s) s.began s.since (tickets_more c (notes_of s) ticket stands.tickets number free handed rising once)
    (let all = lent_out-push c.tickets ticket in omega (arith, room, all)) stands

-- ---- a ticket comes back

pub numbers_without : (number : ℕ) (tickets : List Ticket) → map (λ (t : Ticket). t.number) (without number tickets) ≡ filter (λ n. not (nat_eq n number)) (map (λ (t : Ticket). t.number) tickets)
numbers_without number [] = refl
numbers_without number (t ∷ tickets) = either (not (nat_eq t.number number)) t (without number tickets) (filter (λ n. not (nat_eq n number)) (map (λ (x : Ticket). x.number) tickets)) (numbers_without number tickets)
  where
    either : (b : Bool) (t : Ticket) (ts : List Ticket) (ns : List ℕ) → map (λ (x : Ticket). x.number) ts ≡ ns → map (λ (x : Ticket). x.number) (cond b (t ∷ ts) ts) ≡ cond b (t.number ∷ ns) ns
    either true t ts ns e = ap (λ (xs : List ℕ). t.number ∷ xs) e
    either false t ts ns e = e

fewer_lent : (number : ℕ) (tickets : List Ticket) → lent_out (without number tickets) ≤ lent_out tickets
fewer_lent number [] = omega arith
fewer_lent number (t ∷ tickets) = either (not (nat_eq t.number number)) t (without number tickets) (lent_out tickets) (fewer_lent number tickets)
  where
    either : (b : Bool) (t : Ticket) (ts : List Ticket) (n : ℕ) → lent_out ts ≤ n → lent_out (cond b (t ∷ ts) ts) ≤ length t.lent + n
    either true t ts n below = omega (arith, below)
    either false t ts n below = omega (arith, below)

-- and the numbers of the one that came back are not lent for tickets any more
pub released_lent : (ticket : Ticket) (tickets : List Ticket) → Contains tickets ticket → lent_out (without ticket.number tickets) + length ticket.lent ≤ lent_out tickets
released_lent ticket [] among = absurd (omega (arith, among.1))
released_lent ticket (t ∷ tickets) among = ⊎_elim
    (λ same. here t same (nat_eq t.number ticket.number) (eq-eqb t.number ticket.number (ap (λ (x : Ticket). x.number) same)) (fewer_lent ticket.number tickets))
    (λ later. there (not (nat_eq t.number ticket.number)) (released_lent ticket tickets later))
    (Contains-cons_cases t tickets ticket among)
  where
    here : (t : Ticket) → t ≡ ticket → (b : Bool) → b ≡ true → lent_out (without ticket.number tickets) ≤ lent_out tickets → lent_out (cond (not b) (t ∷ without ticket.number tickets) (without ticket.number tickets)) + length ticket.lent ≤ length t.lent + lent_out tickets
    here t same true e fewer = omega (arith, fewer, ap (λ (x : Ticket). length x.lent) same)
    here t same false e fewer = cc

    there : (b : Bool) → lent_out (without ticket.number tickets) + length ticket.lent ≤ lent_out tickets → lent_out (cond b (t ∷ without ticket.number tickets) (without ticket.number tickets)) + length ticket.lent ≤ length t.lent + lent_out tickets
    there true fewer = omega (arith, fewer)
    there false fewer = omega (arith, fewer)

pub release_stands : ReleaseStands
release_stands told c s number stands =
    let left = without number c.tickets in
    let were : (t : Ticket) → Contains left t → Contains c.tickets t = kept_was (λ (t : Ticket). not (nat_eq t.number number)) c.tickets in
    stands_same c c.next_ticket left told (history_of s) (notes_of s) s.began s.since
    (record {
      rising = subst IsStrictlyIncreasing (sym (numbers_without number c.tickets)) (IsStrictlyIncreasing-filter (λ n. not (nat_eq n number)) (map (λ (t : Ticket). t.number) c.tickets) stands.tickets.rising);
      below = λ t among. stands.tickets.below t (were t among);
      once = λ t among. stands.tickets.once t (were t among);
      lent = λ t file among covers. is_lent_same c c.next_ticket left (notes_of s) file (stands.tickets.lent t file (were t among) covers);
      apart = λ a b file in_a in_b of_a of_b. stands.tickets.apart a b file (were a in_a) (were b in_b) of_a of_b;
      handed = λ t file among covers. stands.tickets.handed t file (were t among) covers;
    })
    (let fewer = fewer_lent number c.tickets in omega (arith, fewer, stands.lent.used, stands.lent.next_file)) stands
