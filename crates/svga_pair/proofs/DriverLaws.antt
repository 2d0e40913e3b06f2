-- What the answers of a driver's calls are to its client, and how it goes on by them.
use Rattle.std.proofs.Common.{◌≡◌, ℕ, ◌+◌, ◌≤◌, ◌==◌, if◌then◌else◌, List, [], ◌∷◌, ◌++◌, length, Bool, true, false, refl, sym, ap, subst, ◌∙◌, Option, Some, None, option_map, Result, Ok, Err, append-nil, append_assoc, length-append, arith}
use Rattle.std.proofs.lemmas.List.Concat.{flat_map-append}
use Rattle.std.specs.FinMap as map
use Rattle.svga_cmd.specs.Spelling.{spelling}
use Rattle.svga_cmd.specs.declared.command.Command.{Command}
use Rattle.svga_cmd.specs.declared.page.PageKey.{PageKey}
use Rattle.svga_cmd.specs.declared.session.Way.{Way}
use Rattle.svga_cmd.specs.declared.session.Way.TheVariants.{Dword, Reserve}
use Rattle.svga_driver.specs.Answering.{HasAsked, told}
use Rattle.svga_driver.specs.CommitAnswers.{CommitAnswers, FenceAnswers, IsCommitted, LacksRoom, fence_of}
use Rattle.svga_driver.specs.Driving.{DriverHas, IsShort, MAX_SENT_WORDS, client_in, settled, with_view}
use Rattle.svga_driver.specs.PageAnswers.{IsBack, LendAnswers, PollTold, TakeAnswers, WriteAnswers}
use Rattle.svga_driver.specs.declared.fault.DriverFault.{DriverFault}
use Rattle.svga_driver.specs.declared.fault.DriverFault.TheVariants as driver
use Rattle.svga_driver.specs.declared.fault.Fence.{Fence}
use Rattle.svga_link.specs.Lending.{FenceTold, with_reply}
use Rattle.svga_link.specs.Told.{StopTold, store_count}
use Rattle.svga_model.specs.Acts.{Act, Do, Put}
use Rattle.svga_model.specs.ClientActs.{Call, Commit, CommitFence, LendPage, ShowPage, TakePage, WritePage}
use Rattle.svga_model.specs.ClientFaults.{ClientFault, NoFence, NotLent, PageLent, PageOut, PageRange, Refused}
use Rattle.svga_model.specs.Clients.{Client, refusal_of}
use Rattle.svga_model.specs.Closings.{stores_of}
use Rattle.svga_model.specs.Meanings.{Fenced}
use Rattle.svga_model.specs.Sentences.{spelling_all}
use Rattle.svga_pair.specs.Answering.{IsAnswer, IsDoneSo, IsRefusedSo, answer_of, answer_to}
use Rattle.svga_pair.specs.Going.{GoesOn, HasEnded, HasTried}
use Rattle.svga_pair.specs.Calls.{commit_count}
use Rattle.svga_pair.specs.declared.answer.Answer.{Answer}
use Rattle.svga_pair.specs.declared.answer.Answer.TheVariants.{Again, Done, Refused as Not, Unseen}
use Rattle.svga_pair.specs.declared.answer.Refused.{Refused as Why}
use Rattle.svga_pair.specs.declared.answer.Told.{Told}
use Rattle.svga_pair.specs.declared.answer.Told.TheVariants as answer
use Rattle.svga_ring.proofs.Words.NextCommand.{commands-append}
use Rattle.svga_ring.specs.Committed.{commands}
use Rattle.svga_ring.specs.Views.{DriverView}

-- values were loaded, and nothing else changed
pub record IsLoaded (d left : DriverView) : Type 0 where
  pub left_is : left ≡ record d {
    stop = left.stop;
    passed = left.passed;
    seen = left.seen;
    stop_loads = left.stop_loads;
    fence_loads = left.fence_loads;
    reply_loads = left.reply_loads;
  }

same_loaded : (d : DriverView) → IsLoaded d d
same_loaded d = record { left_is = refl }

reply_loaded : (d left : DriverView) (reply : ℕ) → left ≡ with_reply d reply → IsLoaded d left
reply_loaded d left reply is = subst (IsLoaded d) (sym is) (record { left_is = refl })

pub settled_loaded : (d : DriverView) → IsLoaded d (settled d)
settled_loaded d = go (d.request.number == d.reply_loads.last) where
  go : (b : Bool) → IsLoaded d (if b then d else with_reply d d.request.number)
  go true = record { left_is = refl }
  go false = record { left_is = refl }

pub stop_loaded : (d left : DriverView) (found : ℕ) → StopTold d left found → IsLoaded d left
stop_loaded d left found t = subst (IsLoaded d) (sym t.view) (record { left_is = refl })

fence_loaded : (d left : DriverView) (found : ℕ) → FenceTold d left found → IsLoaded d left
fence_loaded d left found t = subst (IsLoaded d) (sym t.view) (record { left_is = refl })

pub loaded_then : (a b c : DriverView) → IsLoaded a b → IsLoaded b c → IsLoaded a c
loaded_then a b c m n = record {
  left_is = n.left_is ∙ ap (λ (x : DriverView). record x {
    stop = c.stop;
    passed = c.passed;
    seen = c.seen;
    stop_loads = c.stop_loads;
    fence_loads = c.fence_loads;
    reply_loads = c.reply_loads;
  }) m.left_is;
}

-- how often NEXT_CMD is stored for no command, for one, and for two lists of them
stores-none : (w : Way) → stores_of w [] ≡ 0
stores-none Reserve = refl
stores-none Dword = refl

stores-one : (w : Way) (c : Command) → store_count w (length (spelling c)) ≡ stores_of w (c ∷ [])
stores-one Reserve c = refl
stores-one Dword c = ap length (sym (append-nil (spelling c)))

stores-append : (w : Way) (xs ys : List Command) → stores_of w (xs ++ ys) ≡ stores_of w xs + stores_of w ys
stores-append Reserve xs ys = length-append xs ys
stores-append Dword xs ys =
    ap length (flat_map-append spelling xs ys) ∙ length-append (spelling_all xs) (spelling_all ys)

-- The driver goes on without a command, where no view changes but by loads, pages and requests,
pub goes_none : (d left : DriverHas) → left.table ≡ d.table → left.view.terms ≡ d.view.terms
    → left.view.layout ≡ d.view.layout → commands left.view.acts ≡ commands d.view.acts
    → left.view.sent ≡ d.view.sent → left.view.next_stores ≡ d.view.next_stores → GoesOn d 0 left
goes_none d left table terms layout acts sent stores = record {
  more = [];
  has_sent = record {
    table_is = table;
    terms_are = terms;
    layout_is = layout;
    commands_are = acts ∙ sym (append-nil (commands d.view.acts));
    sent_are = sent ∙ sym (append-nil d.view.sent);
    stores_are = let none = stores-none d.view.terms.way in omega (arith, none, stores);
  };
  few = omega arith;
}

-- with fewer than there might be,
pub goes_more : (d left : DriverHas) (m n : ℕ) → GoesOn d m left → m ≤ n → GoesOn d n left
goes_more d left m n o low =
    record { more = o.more; has_sent = o.has_sent; few = omega (arith, o.few) }

-- and once more behind what it did.
pub goes_then : (a b c : DriverHas) (m n : ℕ) → GoesOn a m b → GoesOn b n c → GoesOn a (m + n) c
goes_then a b c m n x y =
    let s = x.has_sent in
    let t = y.has_sent in record {
      more = x.more ++ y.more;
      has_sent = record {
        table_is = t.table_is ∙ s.table_is;
        terms_are = t.terms_are ∙ s.terms_are;
        layout_is = t.layout_is ∙ s.layout_is;
        commands_are = t.commands_are ∙ ap (λ l. l ++ y.more) s.commands_are
            ∙ append_assoc (commands a.view.acts) x.more y.more;
        sent_are = t.sent_are ∙ ap (λ l. l ++ spelling_all y.more) s.sent_are
            ∙ append_assoc a.view.sent (spelling_all x.more) (spelling_all y.more)
            ∙ ap (λ l. a.view.sent ++ l) (sym (flat_map-append spelling x.more y.more));
        stores_are =
            let way = ap (λ w. stores_of w y.more) (ap (λ t. t.way) s.terms_are) in
            let both = stores-append a.view.terms.way x.more y.more in
            omega (arith, t.stores_are, s.stores_are, way, both);
      };
      few = omega (
        arith,
        x.few,
        y.few,
        ap length (flat_map-append spelling x.more y.more),
        length-append (spelling_all x.more) (spelling_all y.more),
      );
    }

-- What it loads changes nothing to its client.
client_loaded : (d : DriverHas) (v : DriverView) → IsLoaded d.view v → client_in (with_view d v) ≡ client_in d
client_loaded d v o = ap (λ (x : DriverView). client_in (with_view d x)) o.left_is

-- a driver that did no more than to load
abbrev pub Stays : DriverHas → DriverHas → Type 0
Stays d left = (client_in left ≡ client_in d) × GoesOn d 0 left

stays : (d left : DriverHas) → left ≡ with_view d left.view → IsLoaded d.view left.view → Stays d left
stays d left is o = (
  ap client_in is ∙ client_loaded d left.view o,
  goes_none d left (ap (λ (x : DriverHas). x.table) is) (ap (λ (x : DriverView). x.terms) o.left_is)
      (ap (λ (x : DriverView). x.layout) o.left_is) (ap (λ (x : DriverView). commands x.acts) o.left_is)
      (ap (λ (x : DriverView). x.sent) o.left_is) (ap (λ (x : DriverView). x.next_stores) o.left_is),
)

pub goes_same : (d : DriverHas) → GoesOn d 0 d
goes_same d = goes_none d d refl refl refl refl refl refl

same_stays : (d left : DriverHas) → left ≡ d → Stays d left
same_stays d left is = stays d left (is ∙ ap (λ (v : DriverView). with_view d v) (ap (λ (x : DriverHas). x.view) (sym is)))
    (subst (λ (x : DriverHas). IsLoaded d.view x.view) (sym is) (same_loaded d.view))

settled_stays : (d left : DriverHas) → left ≡ with_view d (settled d.view) → Stays d left
settled_stays d left is = stays d left (is ∙ ap (λ (v : DriverView). with_view d v) (ap (λ (x : DriverHas). x.view) (sym is)))
    (subst (λ (x : DriverHas). IsLoaded d.view x.view) (sym is) (settled_loaded d.view))

pub asked_stays : (d left : DriverHas) (request reply : ℕ) → HasAsked d.view request reply left.view
    → left ≡ with_view d left.view → Stays d left
asked_stays d left request reply asked is =
    stays d left is (reply_loaded d.view left.view reply asked.left_is)

pub polled_stays : (d left : DriverHas) (seen : ℕ) → PollTold d seen left → Stays d left
polled_stays d left seen t =
    stays d left t.left_is (fence_loaded d.view left.view t.register t.told)

lacking_stays : {c : Command} (d left : DriverHas) (stop free : ℕ) → LacksRoom d c stop free left
    → Stays d left
lacking_stays d left stop free o = stays d left o.left_is
    (loaded_then d.view (settled d.view) left.view (settled_loaded d.view)
    (stop_loaded (settled d.view) left.view stop o.too_few.told))

-- A fault that the client's rule gives is told as its number and its page.
fault_told : (c : Client) (call : Call) (f : ClientFault) (now : Client) → refusal_of c call ≡ Some f
    → now ≡ c
    → IsAnswer c call (answer_of (told f)) now
fault_told c call (Refused f) now e same =
    record { fault = Refused f; refused = e; number_is = refl; key_is = refl; client_is = same }
fault_told c call (PageOut key) now e same =
    record { fault = PageOut key; refused = e; number_is = refl; key_is = refl; client_is = same }
fault_told c call (PageLent key) now e same =
    record { fault = PageLent key; refused = e; number_is = refl; key_is = refl; client_is = same }
fault_told c call (NotLent key) now e same =
    record { fault = NotLent key; refused = e; number_is = refl; key_is = refl; client_is = same }
fault_told c call (NoFence key) now e same =
    record { fault = NoFence key; refused = e; number_is = refl; key_is = refl; client_is = same }
fault_told c call (PageRange key) now e same =
    record { fault = PageRange key; refused = e; number_is = refl; key_is = refl; client_is = same }

pub refused_so : (c : Client) (call : Call) (fault : DriverFault) (now : Client)
    → option_map told (refusal_of c call) ≡ Some fault → now ≡ c → IsAnswer c call (answer_of fault) now
refused_so c call fault now is same = go (refusal_of c call) refl is where
  go : (o : Option ClientFault) → refusal_of c call ≡ o → option_map told o ≡ Some fault
      → IsAnswer c call (answer_of fault) now
  go None e is = absurd (cc is)
  go (Some f) e is =
      let same_fault : told f ≡ fault = cc is in
      subst (λ x. IsAnswer c call (answer_of x) now) same_fault (fault_told c call f now e same)

-- What becomes of a call that is refused, or that can be done later.
pub tried_again : (d left : DriverHas) (call : Call) (a : Answer)
    → IsAnswer (client_in d) call a (client_in left)
    → GoesOn d 0 left → HasTried d call a left
tried_again d left call a answer goes =
    record { answer = answer; goes = goes_more d left 0 (commit_count call) goes (omega arith) }

refusal_tried : (d left : DriverHas) (call : Call) (fault : DriverFault)
    → option_map told (refusal_of (client_in d) call) ≡ Some fault → Stays d left
    → HasTried d call (answer_of fault) left
refusal_tried d left call fault is s =
    tried_again d left call (answer_of fault) (refused_so (client_in d) call fault (client_in left) is s.0) s.1

-- A command is committed, whose words are sent.
goes_sent : (d left : DriverHas) (c : Command) (call : Call) → length (spelling c) ≤ MAX_SENT_WORDS
    → IsCommitted d call c left → GoesOn d 1 left
goes_sent d left c call few o =
    let sent = o.sent in
    let loaded = loaded_then d.view (settled d.view) sent.loaded (settled_loaded d.view)
    (stop_loaded (settled d.view) sent.loaded sent.stop sent.told_by) in
    let before = loaded.left_is in
    let after = sent.left_is in record {
      more = c ∷ [];
      has_sent = record {
        table_is = ap (λ (x : DriverHas). x.table) o.left_is;
        terms_are = ap (λ (x : DriverView). x.terms) after ∙ ap (λ (x : DriverView). x.terms) before;
        layout_is = ap (λ (x : DriverView). x.layout) after ∙ ap (λ (x : DriverView). x.layout) before;
        commands_are = ap (λ (x : DriverView). commands x.acts) after
            ∙ commands-append sent.loaded.acts (Do c ∷ [])
            ∙ ap (λ (x : DriverView). commands x.acts ++ c ∷ []) before;
        sent_are = ap (λ (x : DriverView). x.sent) after
            ∙ ap (λ (x : DriverView). x.sent ++ spelling c) before
            ∙ ap (λ l. d.view.sent ++ l) (sym (append-nil (spelling c)));
        stores_are = ap (λ (x : DriverView). x.next_stores) after
            ∙ ap (λ (x : DriverView). x.next_stores + store_count x.terms.way (length (spelling c))) before
            ∙ ap (λ n. d.view.next_stores + n) (stores-one d.view.terms.way c);
      };
      few = omega (arith, few, ap length (append-nil (spelling c)));
    }

pub commit_tried : (d : DriverHas) (c : Command) (answer : Result (Unit {0}) DriverFault) (left : DriverHas)
    → length (spelling c) ≤ MAX_SENT_WORDS → CommitAnswers d c answer left
    → HasTried d (Commit c) (answer_to answer) left
commit_tried d c (Ok done) left few o = record {
  answer = record { granted = o.done.granted; told_is = refl; can_tell = tt; client_is = o.done.client_is };
  goes = goes_sent d left c (Commit c) few o;
}
commit_tried d c (Err (driver.Asked request reply)) left few o =
    let s = asked_stays d left request reply o.0 o.1 in tried_again d left (Commit c) Again s.0 s.1
commit_tried d c (Err (driver.Refused f)) left few o =
    refusal_tried d left (Commit c) (driver.Refused f) o.refused (settled_stays d left o.left_is)
commit_tried d c (Err (driver.PageOut key)) left few o =
    refusal_tried d left (Commit c) (driver.PageOut key) o.refused (settled_stays d left o.left_is)
commit_tried d c (Err (driver.NoRoom stop free)) left few o =
    let s = lacking_stays d left stop free o.1 in tried_again d left (Commit c) Again s.0 s.1
commit_tried d c (Err fault) left few o = absurd o

pub fence_done : (d : DriverHas) (fence : Fence) (left : DriverHas) → FenceAnswers d (Ok fence) left
    → HasTried d CommitFence (Done (answer.Fence fence.number)) left
fence_done d fence left o = record {
  answer = record {
    granted = refl;
    told_is = ap (λ n. Some (Fenced n)) (sym o.1);
    can_tell = tt;
    client_is = o.2.done.client_is;
  };
  goes = goes_sent d left (fence_of d) CommitFence (omega arith) o.2;
}

pub fence_not : (d : DriverHas) (fault : DriverFault) (left : DriverHas) → FenceAnswers d (Err fault) left
    → HasTried d CommitFence (answer_of fault) left
fence_not d (driver.Asked request reply) left o =
    let s = asked_stays d left request reply o.0 o.1 in tried_again d left CommitFence Again s.0 s.1
fence_not d driver.FenceWindow left o =
    let s = settled_stays d left o.1 in tried_again d left CommitFence Unseen s.0 s.1
fence_not d (driver.NoRoom stop free) left o =
    let s = lacking_stays d left stop free o.1 in tried_again d left CommitFence Again s.0 s.1
fence_not d fault left o = absurd o

-- Pages are written, lent and taken back without a command.
pub write_tried : (d : DriverHas) (key : PageKey) (offset : ℕ) (bytes : List ℕ)
    (answer : Result (Unit {0}) DriverFault) (left : DriverHas) → WriteAnswers d key offset bytes answer left
    → HasTried d (WritePage key offset bytes) (answer_to answer) left
write_tried d key offset bytes (Ok done) left o =
    let view = ap (λ (x : DriverHas). x.view) o.1 in record {
      answer = record { granted = o.0.granted; told_is = refl; can_tell = tt; client_is = o.0.client_is };
      goes = goes_none d left (ap (λ (x : DriverHas). x.table) o.1) (ap (λ (x : DriverView). x.terms) view)
          (ap (λ (x : DriverView). x.layout) view) (ap (λ (x : DriverView). commands x.acts) view)
          (ap (λ (x : DriverView). x.sent) view) (ap (λ (x : DriverView). x.next_stores) view);
    }
write_tried d key offset bytes (Err fault) left o =
    refusal_tried d left (WritePage key offset bytes) fault o.refused (same_stays d left o.left_is)

put_none : (acts : List Act) (key : PageKey) (bytes : List ℕ)
    → commands (acts ++ Put key bytes ∷ []) ≡ commands acts
put_none acts key bytes = commands-append acts (Put key bytes ∷ []) ∙ append-nil (commands acts)

pub lend_tried : (d : DriverHas) (key : PageKey) (answer : Result (Unit {0}) DriverFault) (left : DriverHas)
    → LendAnswers d key answer left → HasTried d (LendPage key) (answer_to answer) left
lend_tried d key (Ok done) left o =
    let view = ap (λ (x : DriverHas). x.view) o.1 in record {
      answer = record { granted = o.0.granted; told_is = refl; can_tell = tt; client_is = o.0.client_is };
      goes = goes_none d left (ap (λ (x : DriverHas). x.table) o.1) (ap (λ (x : DriverView). x.terms) view)
          (ap (λ (x : DriverView). x.layout) view)
          (ap (λ (x : DriverView). commands x.acts) view ∙ put_none d.view.acts key _)
          (ap (λ (x : DriverView). x.sent) view) (ap (λ (x : DriverView). x.next_stores) view);
    }
lend_tried d key (Err fault) left o =
    refusal_tried d left (LendPage key) fault o.refused (same_stays d left o.left_is)

back_loaded : (d : DriverView) (place : Option ℕ) (left : DriverView) → IsBack d place left → IsLoaded d left
back_loaded d None left is = subst (IsLoaded d) (sym is) (same_loaded d)
back_loaded d (Some place) left o = fence_loaded d left o.0 o.1

pub take_tried : (d : DriverHas) (key : PageKey) (answer : Result (Unit {0}) DriverFault) (left : DriverHas)
    → TakeAnswers d key answer left → HasTried d (TakePage key) (answer_to answer) left
take_tried d key (Ok done) left o =
    let is = o.3 in
    let view = ap (λ (x : DriverHas). x.view) is in
    let loaded = (loaded_then d.view (settled d.view) o.1 (settled_loaded d.view)
    (back_loaded (settled d.view) (map.get d.touched key) o.1 o.2)).left_is in record {
      answer = record { granted = o.0.granted; told_is = refl; can_tell = tt; client_is = o.0.client_is };
      goes = goes_none d left (ap (λ (x : DriverHas). x.table) is)
          (ap (λ (x : DriverView). x.terms) view ∙ ap (λ (x : DriverView). x.terms) loaded)
          (ap (λ (x : DriverView). x.layout) view ∙ ap (λ (x : DriverView). x.layout) loaded)
          (ap (λ (x : DriverView). commands x.acts) view ∙ ap (λ (x : DriverView). commands x.acts) loaded)
          (ap (λ (x : DriverView). x.sent) view ∙ ap (λ (x : DriverView). x.sent) loaded)
          (ap (λ (x : DriverView). x.next_stores) view ∙ ap (λ (x : DriverView). x.next_stores) loaded);
    }
take_tried d key (Err (driver.PageRange k)) left o =
    refusal_tried d left (TakePage key) (driver.PageRange k) o.refused (same_stays d left o.left_is)
take_tried d key (Err (driver.NotLent k)) left o =
    refusal_tried d left (TakePage key) (driver.NotLent k) o.refused (same_stays d left o.left_is)
take_tried d key (Err (driver.Asked request reply)) left o =
    let s = asked_stays d left request reply o.1 o.2 in tried_again d left (TakePage key) Again s.0 s.1
take_tried d key (Err (driver.NoFence k)) left o =
    refusal_tried d left (TakePage key) (driver.NoFence k) o.refused (settled_stays d left o.left_is)
take_tried d key (Err (driver.NotYet k fence)) left o =
    let shows = o.4 in
    let loaded = loaded_then d.view (settled d.view) left.view (settled_loaded d.view)
    (fence_loaded (settled d.view) left.view shows.0 shows.1) in
    let s = stays d left o.6 loaded in tried_again d left (TakePage key) Again s.0 s.1
take_tried d key (Err fault) left o = absurd o

-- A page is shown, or it can't be had.
pub show_done : (d : DriverHas) (key : PageKey) → refusal_of (client_in d) (ShowPage key) ≡ None
    → HasTried d (ShowPage key) (Done (answer.Page key)) d
show_done d key none = record {
  answer = record { granted = none; told_is = refl; can_tell = none; client_is = refl };
  goes = (same_stays d d refl).1;
}

pub show_not : (d : DriverHas) (key : PageKey) (fault : DriverFault)
    → option_map told (refusal_of (client_in d) (ShowPage key)) ≡ Some fault
    → HasTried d (ShowPage key) (answer_of fault) d
show_not d key fault is = refusal_tried d d (ShowPage key) fault is (same_stays d d refl)

-- A driver that waited ends as one that didn't.
waited_then : (d left next : DriverHas) (n : ℕ) → Stays d left → GoesOn left n next → GoesOn d n next
waited_then d left next n s goes = goes_more d next (0 + n) n (goes_then d left next 0 n s.1 goes) (omega arith)

pub ends_done : (d left next : DriverHas) (call : Call) (t : Told) → Stays d left
    → HasTried left call (Done t) next → HasEnded d call (Ok t) next
ends_done d left next call t s o = record {
  ends = subst (λ c. IsDoneSo c call t (client_in next)) s.0 o.answer;
  goes = waited_then d left next (commit_count call) s o.goes;
}

pub ends_refused : (d left next : DriverHas) (call : Call) (r : Why) → Stays d left
    → HasTried left call (Not r) next → HasEnded d call (Err r) next
ends_refused d left next call r s o = record {
  ends = subst (λ c. IsRefusedSo c call r (client_in next)) s.0 o.answer;
  goes = waited_then d left next (commit_count call) s o.goes;
}

-- and one whose call is to be made again has sent nothing
none_more : (xs ys : List Command) → xs ++ ys ≡ xs → ys ≡ []
none_more [] ys is = is
none_more (x ∷ xs) ys is = none_more xs ys (cc is)

pub waits : (d left next : DriverHas) (n : ℕ) → Stays d left → client_in next ≡ client_in left
    → GoesOn left n next
    → Stays d next
waits d left next n s same goes = (
  same ∙ s.0,
  waited_then d left next 0 s (record {
    more = goes.more;
    has_sent = goes.has_sent;
    few =
        let none = none_more (commands left.view.acts) goes.more
        (sym goes.has_sent.commands_are ∙ ap (λ (c : Client). c.commands) same) in
        omega (arith, ap (λ l. length (spelling_all l)) none);
  }),
)

pub polls : (d left next : DriverHas) (seen : ℕ) → Stays d left → PollTold left seen next → Stays d next
polls d left next seen s told =
    let o = polled_stays left next seen told in (o.0 ∙ s.0, waited_then d left next 0 s o.1)

pub short_yet : (d left : DriverHas) → Stays d left → IsShort d.view → IsShort left.view
short_yet d left s short =
    let goes = s.1 in
    omega (arith, short, goes.few, ap length goes.has_sent.sent_are, length-append d.view.sent (spelling_all goes.more))
