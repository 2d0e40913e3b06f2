-- Pages that are lent and taken in order, in a session whose commands are fences.
use Rattle.std.proofs.Common.{◌≡◌, ◌≢◌, ℕ, ◌+◌, ◌*◌, ◌<◌, ◌≤◌, List, [], ◌∷◌, ◌++◌, true, false, nat_le, nat_lt, ◌&&◌, All, length, append-nil, refl, sym, ap, subst, ◌∙◌, arith}
use Rattle.std.proofs.lemmas.Bool.Decides.{nat_tests}
use Rattle.std.proofs.lemmas.List.Elements.{All-append, All-cons, All-get_or, All-nil}
use Rattle.std.proofs.lemmas.Option.{get_or_from_slice_get, slice_get_within}
use Rattle.std.specs.FinSet as set
use Rattle.std.specs.FinSet.{FinSet}
use Rattle.svga_cmd.proofs.KeyLaws.{keys_exact, keys_total}
use Rattle.svga_cmd.proofs.Maps.{by_key}
use Rattle.svga_cmd.specs.Pages.{Memory, key_cmp, number_in_kind}
use Rattle.svga_cmd.specs.declared.command.Command.{Command}
use Rattle.svga_cmd.specs.declared.command.Command.TheVariants.{Fence}
use Rattle.svga_cmd.specs.declared.page.PageKey.{PageKey}
use Rattle.svga_cmd.specs.declared.page.PageKey.TheVariants.{Guest}
use Rattle.svga_link.specs.Ends.{DriverSeen}
use Rattle.svga_link.specs.Lending.{FenceTold, lending, taking}
use Rattle.svga_model.specs.Acts.{Act, Do, Put}
use Rattle.svga_model.specs.Fences.{fences, number_of_fence}
use Rattle.svga_model.specs.Runs.{run}
use Rattle.svga_model.specs.States.{State}
use Rattle.svga_model.specs.Touches.{Touches}
use Rattle.svga_ring.proofs.Pages.Locations.{in_here, in_other, out_here, out_other}
use Rattle.svga_ring.proofs.Words.NextCommand.{commands-append}
use Rattle.svga_ring.specs.Committed.{before, commands}
use Rattle.svga_ring.specs.SoundPages.{TouchesAt}
use Rattle.svga_ring.specs.Views.{DriverView, Terms}
use Rattle.bench_ring.specs.Lendings.{AreLent, IsFence, SendsFences}
use Rattle.bench_ring.specs.Passing.{IsReady, fence_count}
use Rattle.bench_ring.proofs.PassedCommands.{fence_alone}

-- whether a number is among some, with one more of them at the end or one fewer at the start
end_in : (from past n : ℕ) → from ≤ past → n ≡ past → true ≡ (nat_le from n && nat_lt n (past + 1))
end_in from past n order is = grind (arith, nat_tests)

end_other : (from past n : ℕ) → n ≢ past
    → (nat_le from n && nat_lt n past) ≡ (nat_le from n && nat_lt n (past + 1))
end_other from past n differ = grind (arith, nat_tests)

start_out : (from past n : ℕ) → n ≡ from → false ≡ (nat_le (from + 1) n && nat_lt n past)
start_out from past n is = grind (arith, nat_tests)

start_other : (from past n : ℕ) → n ≢ from
    → (nat_le from n && nat_lt n past) ≡ (nat_le (from + 1) n && nat_lt n past)
start_other from past n differ = grind (arith, nat_tests)

none_in : (a b n : ℕ) → (nat_le a n && nat_lt n a) ≡ (nat_le b n && nat_lt n b)
none_in a b n = grind (arith, nat_tests)

one_in : (from past : ℕ) → from < past → (nat_le from from && nat_lt from past) ≡ true
one_in from past less = grind (arith, nat_tests)

last_out : (from past : ℕ) → (nat_le from past && nat_lt past past) ≡ false
last_out from past = grind (arith, nat_tests)

-- the page behind those that are lent isn't,
pub next_free : (pages : FinSet key_cmp) (from past : ℕ) → AreLent pages from past
    → set.contains pages (Guest past) ≡ false
next_free pages from past lent = lent past ∙ last_out from past

-- the first of them is,
pub first_lent : (pages : FinSet key_cmp) (from past : ℕ) → AreLent pages from past → from < past
    → set.contains pages (Guest from) ≡ true
first_lent pages from past lent less = lent from ∙ one_in from past less

-- one more is lent,
pub lent_more : (pages : FinSet key_cmp) (from past : ℕ) → from ≤ past → AreLent pages from past
    → AreLent (set.insert pages (Guest past)) from (past + 1)
lent_more pages from past order lent n =
    by_key keys_total keys_exact (Guest n) (Guest past)
    (set.contains (set.insert pages (Guest past)) (Guest n) ≡ (nat_le from n && nat_lt n (past + 1)))
    (λ is. subst (λ (key : PageKey). set.contains (set.insert pages (Guest past)) key ≡ true) (sym is)
    (in_here pages (Guest past))
    ∙ end_in from past n order (ap number_in_kind is))
    (λ differ. in_other pages (Guest past) (Guest n) differ ∙ lent n
    ∙ end_other from past n (λ is. differ (ap Guest is)))

-- and one is taken.
pub lent_fewer : (pages : FinSet key_cmp) (from past : ℕ) → AreLent pages from past
    → AreLent (set.remove pages (Guest from)) (from + 1) past
lent_fewer pages from past lent n =
    by_key keys_total keys_exact (Guest n) (Guest from)
    (set.contains (set.remove pages (Guest from)) (Guest n) ≡ (nat_le (from + 1) n && nat_lt n past))
    (λ is. subst (λ (key : PageKey). set.contains (set.remove pages (Guest from)) key ≡ false) (sym is)
    (out_here pages (Guest from))
    ∙ start_out from past n (ap number_in_kind is))
    (λ differ. out_other pages (Guest from) (Guest n) differ ∙ lent n
    ∙ start_other from past n (λ is. differ (ap Guest is)))

pub none_lent : (pages : FinSet key_cmp) (a b : ℕ) → AreLent pages a a → AreLent pages b b
none_lent pages a b lent n = lent n ∙ none_in a b n

-- a page that is lent is no command
pub commands_stay : (acts : List Act) (key : PageKey) (bytes : List ℕ)
    → commands (acts ++ Put key bytes ∷ []) ≡ commands acts
commands_stay acts key bytes = commands-append acts (Put key bytes ∷ []) ∙ append-nil (commands acts)

pub fences_all : (acts : List Act) (value : ℕ) → All IsFence (commands acts)
    → All IsFence (commands (acts ++ Do (Fence value) ∷ []))
fences_all acts value all =
    subst (λ (cs : List Command). All IsFence cs) (sym (commands-append acts (Do (Fence value) ∷ [])))
    (All-append IsFence (commands acts) (Fence value ∷ []) all
    (All-cons IsFence (Fence value) [] (value, refl) (All-nil IsFence)))

-- where all commands are fences, no command touches a page
pub fences_touch_none : (s : State) (acts : List Act) (n : ℕ) (key : PageKey) → All IsFence (commands acts)
    → TouchesAt s acts n key → ⊥
fences_touch_none s acts n key all touched =
    let cs = commands acts in
    let c = touched.0 in
    let is : IsFence c = subst IsFence (get_or_from_slice_get cs n c c touched.1)
    (All-get_or IsFence cs n c (slice_get_within cs n c touched.1) all) in
    fence_alone (run s (before n acts)) is.0 key
    (subst (λ (d : Command). Touches (run s (before n acts)) (Do d) key) is.1 touched.2)

-- the numbers of fences from 1 on
pub first_numbers : (k : ℕ) → k < 65536 → k + 1 ≡ number_of_fence 1 k
first_numbers k few = omega arith

-- what stays of a session of fences while its pages change
pub record Keeps (d left : DriverSeen) : Type 0 where
  pub ready : IsReady left
  pub terms : left.view.terms ≡ d.view.terms
  pub commands_are : commands left.view.acts ≡ commands d.view.acts
  pub sent : left.view.sent ≡ d.view.sent

pub count_on : (d left : DriverSeen) → Keeps d left → fence_count left.view ≡ fence_count d.view
count_on d left keeps = ap (λ (cs : List Command). length (fences cs)) keeps.commands_are

pub sends_on : (d left : DriverSeen) → SendsFences d → Keeps d left → SendsFences left
sends_on d left sends keeps = record {
  ready = keeps.ready;
  pages = ap (λ (t : Terms). t.limits.pages) keeps.terms ∙ sends.pages;
  first = ap (λ (t : Terms). t.first) keeps.terms ∙ sends.first;
  fences = subst (λ (cs : List Command). All IsFence cs) (sym keeps.commands_are) sends.fences;
  sent = ap length keeps.sent ∙ sends.sent ∙ sym (ap (λ n. 2 * n) (count_on d left keeps));
}

-- it stays where a page is written and lent,
pub keeps_lent : (d written left : DriverSeen) (key : PageKey) (bytes : List ℕ) (pages : Memory) → IsReady d
    → written.view ≡ d.view → written.reserved ≡ d.reserved
    → left ≡ record written { view = lending written.view key bytes; pages = pages } → Keeps d left
keeps_lent d written left key bytes pages ready view reserved is = record {
  ready = record {
    runs = ap (λ (s : DriverSeen). s.view.stopped) is ∙ ap (λ (v : DriverView). v.stopped) view ∙ ready.runs;
    none_begun = ap (λ (s : DriverSeen). s.reserved) is ∙ reserved ∙ ready.none_begun;
    none_open = ap (λ (s : DriverSeen). s.view.request.number) is ∙ ap (λ (v : DriverView). v.request.number) view
        ∙ ready.none_open ∙ sym (ap (λ (v : DriverView). v.reply_loads.last) view)
        ∙ sym (ap (λ (s : DriverSeen). s.view.reply_loads.last) is);
  };
  terms = ap (λ (s : DriverSeen). s.view.terms) is ∙ ap (λ (v : DriverView). v.terms) view;
  commands_are = ap (λ (s : DriverSeen). commands s.view.acts) is ∙ commands_stay written.view.acts key bytes
      ∙ ap (λ (v : DriverView). commands v.acts) view;
  sent = ap (λ (s : DriverSeen). s.view.sent) is ∙ ap (λ (v : DriverView). v.sent) view;
}

-- where one is taken,
pub keeps_taken : (d left : DriverSeen) (key : PageKey) (pages : Memory) → IsReady d
    → left ≡ record d { view = taking d.view key; pages = pages } → Keeps d left
keeps_taken d left key pages ready is = record {
  ready = record {
    runs = ap (λ (s : DriverSeen). s.view.stopped) is ∙ ready.runs;
    none_begun = ap (λ (s : DriverSeen). s.reserved) is ∙ ready.none_begun;
    none_open = ap (λ (s : DriverSeen). s.view.request.number) is ∙ ready.none_open
        ∙ sym (ap (λ (s : DriverSeen). s.view.reply_loads.last) is);
  };
  terms = ap (λ (s : DriverSeen). s.view.terms) is;
  commands_are = ap (λ (s : DriverSeen). commands s.view.acts) is;
  sent = ap (λ (s : DriverSeen). s.view.sent) is;
}

-- and where FENCE is loaded.
pub keeps_seen : (d left : DriverSeen) (found : ℕ) → IsReady d → left ≡ record d { view = left.view }
    → FenceTold d.view left.view found → Keeps d left
keeps_seen d left found ready is told = record {
  ready = record {
    runs = ap (λ (v : DriverView). v.stopped) told.view ∙ ready.runs;
    none_begun = ap (λ (s : DriverSeen). s.reserved) is ∙ ready.none_begun;
    none_open = ap (λ (v : DriverView). v.request.number) told.view ∙ ready.none_open
        ∙ sym (ap (λ (v : DriverView). v.reply_loads.last) told.view);
  };
  terms = ap (λ (v : DriverView). v.terms) told.view;
  commands_are = ap (λ (v : DriverView). commands v.acts) told.view;
  sent = ap (λ (v : DriverView). v.sent) told.view;
}
