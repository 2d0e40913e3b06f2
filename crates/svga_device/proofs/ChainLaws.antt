-- What each call for a chain that is out comes to.
use Rattle.std.proofs.Common.{◌≡◌, ◌≢◌, ◌<◌, ◌++◌, ◌∷◌, ℕ, All, List, [], Bool, true, false, cond, Option, Some, None, Result, Ok, Err, IsSomeAnd, is_some, length, unwrap_or, refl, sym, ap, subst, ◌∙◌}
use Rattle.std.proofs.lemmas.List.Elements.{All-nil, All-push, All-same, All-weaker}
use Rattle.std.proofs.lemmas.Option.{none-some}
use Rattle.std.specs.FinMap as map
use Rattle.std.specs.FinMap.{get-insert}
use Rattle.std.specs.Ordering.{eq_by_cmp}
use Rattle.std.specs.Result.{result_err}
use mathlib.Core.Bool.{true≢false}
use Rattle.svga_cmd.proofs.KeyLaws.{keys_exact, keys_total}
use Rattle.svga_cmd.proofs.Maps.{one_key}
use Rattle.svga_cmd.specs.Pages.{HasPage, IsKey, Memory, key_cmp, page_at}
use Rattle.svga_cmd.specs.declared.command.Command.TheVariants.{DefineGmr2}
use Rattle.svga_cmd.specs.declared.fault.Fault.{Fault}
use Rattle.svga_cmd.specs.declared.page.PageKey.{PageKey}
use Rattle.svga_cmd.specs.declared.page.PageKey.TheVariants.{Guest}
use Rattle.svga_link.specs.Ends.{DeviceRest, DeviceSeen}
use Rattle.svga_link.specs.Holding.{HasNumbers}
use Rattle.svga_link.specs.Seats.{IsDevicePossible}
use Rattle.svga_link.specs.declared.requests.Request as given
use Rattle.svga_machine.specs.MachineSet.{MachineSet, regions_in, state_with, with_regions_of}
use Rattle.svga_model.specs.Acts.{Chain, Do}
use Rattle.svga_model.specs.Faults.{IsAdmissible}
use Rattle.svga_model.specs.Standing.{first_standing}
use Rattle.svga_model.specs.States.{State}
use Rattle.svga_model.specs.Steps.{step}
use Rattle.svga_model.specs.Touches.{Touches}
use Rattle.svga_model.specs.Walks.{start_tests, tables_of}
use Rattle.svga_region.proofs.WholeLaws.{begins, finishes, goes, wants_page}
use Rattle.svga_region.specs.ChainCalls.{FinishesChain, ReadsChain, StartsChain}
use Rattle.svga_region.specs.Chains.{begun_chain}
use Rattle.svga_region.specs.Conditions.{IsChainBegun}
use Rattle.svga_region.specs.RegionSet.{Chain as Begun}
use Rattle.svga_region.specs.WholeChains.{IsLeft, IsUnderWay, WholeChain, walked}
use Rattle.svga_region.specs.declared.chain.ChainNext.{ChainNext}
use Rattle.svga_region.specs.declared.chain.ChainNext.TheVariants.{Page, Whole}
use Rattle.svga_ring.specs.Core.{chain_of}
use Rattle.svga_ring.specs.Noting.{known_state}
use Rattle.svga_ring.specs.Requests.{is_ring_request}
use Rattle.svga_ring.specs.Views.{DeviceView}
use Rattle.svga_device.proofs.ChainWalks.{entered_touched, none_touched, touched_there}
use Rattle.svga_device.specs.Chains.{AreAmong, HasWalked, IsAnswering, IsChainRun, IsWalked, IsWalking, chain_over}
use Rattle.svga_device.specs.Serving.{IsHolding}
use Rattle.svga_device.proofs.ChainOut.{no_chain_fault, no_fault}

-- nothing but the chain changes, where the regions stay
pub chain_changed : (m m' : MachineSet) → m' ≡ with_regions_of m m' → m'.kept.regions ≡ m.kept.regions
    → m' ≡ record m { chain = m'.chain }
chain_changed m m' left same =
    left ∙ ap (λ rs. record { kept = record m.kept { regions = rs }; chain = m'.chain }) same

pub answering_by : (e : DeviceSeen) (m m' : MachineSet) → m' ≡ record m { chain = m'.chain } → IsAnswering e m
    → IsAnswering e m'
answering_by e m m' left a = record {
  waits = a.waits;
  no_ring = a.no_ring;
  none_read = a.none_read;
  kept = a.kept ∙ sym (ap (λ (m : MachineSet). m.kept) left);
  limits = a.limits;
  holding = a.holding;
}

-- one page more may be held
pub answering_more : (e e' : DeviceSeen) (m : MachineSet) → IsHolding e.view e'.view e'.pages
    → IsAnswering e m → IsAnswering e' m
answering_more e e' m h a = record {
  waits = subst (λ (v : DeviceView). v.wanted.number ≢ v.answered) (sym h.view) a.waits;
  no_ring = subst (λ (v : DeviceView). is_ring_request v.wanted ≡ false) (sym h.view) a.no_ring;
  none_read = ap (λ (v : DeviceView). v.read) h.view ∙ a.none_read;
  kept = ap (λ (v : DeviceView). v.kept) h.view ∙ a.kept;
  limits = subst (λ (v : DeviceView). v.terms.limits ≡ v.kept.limits) (sym h.view) a.limits;
  holding = record { view = refl; noted_is = h.noted_is; none_back = h.none_back };
}

still_there : (pages pages' : Memory) (key : PageKey) → AreAmong pages pages' → HasPage pages key
    → HasPage pages' key
still_there pages pages' key among has = ap is_some (among key has) ∙ has

-- since the first view, one page more
pub holding_on : (first e e' : DeviceView) (pages pages' : Memory) → e' ≡ record e { noted = e'.noted }
    → IsHolding first e pages → IsHolding e' e' pages' → IsHolding first e' pages'
holding_on first e e' pages pages' view before now = record {
  view = view ∙ ap {A = DeviceView} {B = DeviceView} (λ v. record v { noted = e'.noted }) before.view;
  noted_is = now.noted_is;
  none_back = now.none_back;
}

pub walking_more : (e e' : DeviceSeen) (m : MachineSet) (read : List ℕ) (wanted : ℕ)
    → IsHolding e.view e'.view e'.pages → AreAmong e.pages e'.pages → IsWalking e m read wanted
    → IsWalking e' m read wanted
walking_more e e' m read wanted h among w = record {
  there = All-weaker (λ p. HasPage e.pages (Guest p)) (λ p. HasPage e'.pages (Guest p))
      (λ p. still_there e.pages e'.pages (Guest p) among) read w.there;
  way = λ all more.
      subst (λ (v : DeviceView). IsUnderWay (chain_over v all) read wanted (regions_in m)) (sym h.view)
      (w.way all (λ key has. more key (still_there e.pages e'.pages key among has) ∙ among key has));
}

-- the chain is begun
pub begun_walking : (e : DeviceSeen) (m m' : MachineSet) (request : given.Request) → e.view.kept ≡ m.kept
    → HasNumbers request e.view.wanted → request.descriptor ≢ 0
    → StartsChain (regions_in m) request.id request.descriptor (Ok tt) (regions_in m')
    → IsWalking e m' [] request.descriptor
begun_walking e m m' request kept n some starts = record {
  there = All-nil (λ p. HasPage e.pages (Guest p));
  way = λ all among.
      subst (λ first. IsUnderWay (chain_over e.view all) [] first (regions_in m')) (sym n.descriptor_is)
      (begins (chain_over e.view all) (Ok tt) (regions_in m') (subst (λ first. first ≢ 0) n.descriptor_is some)
      (record {
        fault = starts.fault ∙ (λ i. first_standing (start_tests (sym kept i).limits.pages (n.id_is i) (n.descriptor_is i)));
        ok = starts.ok ∙ (λ i. record (regions_in (record { kept = sym kept i; chain = None }))
            { chain = Some (begun_chain (n.id_is i) (n.descriptor_is i)) });
        err = tt;
      }));
}

-- what is left of it
left_of : (P : Begun → Type 0) (o : Option Begun) → IsSomeAnd o P → (c : Begun) × P c
left_of P None h = absurd h
left_of P (Some c) h = (c, h)

-- The chain is under way, and wants a table page.
module _ (e : DeviceSeen) (m : MachineSet) (read : List ℕ) (wanted : ℕ) (a : IsAnswering e m)
    (w : IsWalking e m read wanted) where
  abbrev chain : WholeChain
  chain = chain_over e.view e.pages

  way : IsUnderWay chain read wanted (regions_in m)
  way = w.way e.pages (λ key has. refl)

  pub wanted_key : IsKey e.view.terms.limits (Guest wanted)
  wanted_key = subst (λ l. IsKey l (Guest wanted)) (sym a.limits) (wants_page chain read wanted (regions_in m) way).1

  pub wanted_touched : Touches (known_state e.view) (chain_of e.view.wanted) (Guest wanted)
  wanted_touched =
      let known : ◌≡◌ {A = State} (record { kept = e.view.kept; memory = e.pages }) (known_state e.view) =
      λ i. record { kept = e.view.kept; memory = sym a.holding.noted_is i } in
      let left = (left_of (IsLeft chain read wanted) m.chain way.left).1 in
      let entered = left.entered ∙ ap (λ l. read ++ l) left.next.1 in
      subst (λ s. Touches s (chain_of e.view.wanted) (Guest wanted)) known
      (entered_touched (record { kept = e.view.kept; memory = e.pages }) e.view.wanted.id e.view.wanted.descriptor
      read left.next.0 wanted way.allowed.some entered)

  pub is_begun : IsChainBegun m.chain
  is_begun = (wants_page chain read wanted (regions_in m) way).0

  pub few_read : length read < 4096
  few_read = (wants_page chain read wanted (regions_in m) way).2

  -- the page is there, and is read
  module _ (m' : MachineSet) (bytes : List ℕ) (page : page_at e.pages (Guest wanted) ≡ Some bytes) where
    there : All (λ p. HasPage e.pages (Guest p)) (read ++ wanted ∷ [])
    there = All-push (λ p. HasPage e.pages (Guest p)) read wanted w.there (ap is_some page)

    same_bytes : (all : Memory) → AreAmong e.pages all → tables_of all wanted ≡ bytes
    same_bytes all among = ap (λ o. unwrap_or o []) (among (Guest wanted) (ap is_some page) ∙ page)

    pub has_walked : (next : ChainNext) → ReadsChain (regions_in m) bytes (Ok next) (regions_in m')
        → HasWalked e m' (read ++ wanted ∷ []) next
    has_walked (Page q) reads = record {
      there = there;
      way = λ all among. goes (chain_over e.view all) read wanted (regions_in m) (Ok (Page q)) (regions_in m') (w.way all among)
          (subst (λ b. ReadsChain (regions_in m) b (Ok (Page q)) (regions_in m')) (sym (same_bytes all among)) reads);
    }
    has_walked Whole reads = record {
      there = there;
      whole = goes chain read wanted (regions_in m) (Ok Whole) (regions_in m') way
          (subst (λ b. ReadsChain (regions_in m) b (Ok Whole) (regions_in m')) (sym (same_bytes e.pages (λ key has. refl))) reads);
    }

    -- it isn't refused
    pub never_refused : IsDevicePossible e.view → (f : Fault)
        → ReadsChain (regions_in m) bytes (Err f) (regions_in m') → ⊥
    never_refused p f reads =
        let r = e.view.wanted in
        let refused = goes chain read wanted (regions_in m) (Err f) (regions_in m') way
        (subst (λ b. ReadsChain (regions_in m) b (Err f) (regions_in m')) (sym (same_bytes e.pages (λ key has. refl))) reads) in
        let all = All-same (λ p. HasPage e.pages (Guest p)) (walked chain) (read ++ wanted ∷ []) refused.entered there in
        let touched = touched_there (record { kept = e.view.kept; memory = e.pages }) r.id r.descriptor (HasPage e.pages) all in
        let admissible = no_fault e.view p a.waits e.pages a.holding.noted_is touched in
        none-some f (sym (no_chain_fault e.view e.pages admissible) ∙ refused.fault)

-- The end of the chain was read.
module _ (e : DeviceSeen) (m : MachineSet) (read : List ℕ) (a : IsAnswering e m) (w : IsWalked e m read)
    (p : IsDevicePossible e.view) where
  all_touched : (key : PageKey)
      → Touches (record { kept = e.view.kept; memory = e.pages }) (chain_of e.view.wanted) key
      → HasPage e.pages key
  all_touched = touched_there (record { kept = e.view.kept; memory = e.pages }) e.view.wanted.id e.view.wanted.descriptor
      (HasPage e.pages) (All-same (λ p. HasPage e.pages (Guest p)) (walked (chain_over e.view e.pages)) read w.whole.entered w.there)

  is_admissible : IsAdmissible (record { kept = e.view.kept; memory = e.pages }) (chain_of e.view.wanted)
  is_admissible = no_fault e.view p a.waits e.pages a.holding.noted_is all_touched

  module _ (m' : MachineSet) (answer : Result (Unit {0}) Fault)
      (told : FinishesChain (regions_in m) answer (regions_in m')) where
    pub none_refused : (f : Fault) → answer ≡ Err f → ⊥
    none_refused f is =
        let done = finishes (chain_over e.view e.pages) read (regions_in m) answer (regions_in m') w.whole told in
        none-some f (sym (no_chain_fault e.view e.pages is_admissible) ∙ sym done.fault ∙ ap result_err is)

    pub chain_over_then : answer ≡ Ok tt → m'.chain ≡ None
    chain_over_then is =
        let good = subst (λ r. FinishesChain (regions_in m) r (regions_in m')) is told in
        let done = finishes (chain_over e.view e.pages) read (regions_in m) (Ok tt) (regions_in m') w.whole good in
        ap (λ r. r.chain) done.ok

    pub chain_run : answer ≡ Ok tt → m' ≡ with_regions_of m m'
        → IsChainRun e.view.kept e.pages e.view.wanted m'.kept
    chain_run is left =
        let good = subst (λ r. FinishesChain (regions_in m) r (regions_in m')) is told in
        let done = finishes (chain_over e.view e.pages) read (regions_in m) (Ok tt) (regions_in m') w.whole good in
        record {
          there = all_touched;
          admissible = is_admissible;
          stepped = ap (λ (m : MachineSet). m.kept) left
              ∙ (λ i. record (sym a.kept i) { regions = ap (λ r. r.regions) done.ok i });
        }

-- a page that wasn't there is put
pub put_among : (pages pages' : Memory) (key : PageKey) (bytes : List ℕ) → is_some (page_at pages key) ≡ false
    → pages' ≡ map.insert pages key bytes → AreAmong pages pages'
put_among pages pages' key bytes none put q has =
    ap (λ m. page_at m q) put ∙ get-insert keys_total pages key bytes q ∙ go (eq_by_cmp key_cmp q key) refl
  where
    go : (same : Bool) → eq_by_cmp key_cmp q key ≡ same
        → cond same (Some bytes) (page_at pages q) ≡ page_at pages q
    go true e = absurd (true≢false (sym has ∙ ap (λ k. is_some (page_at pages k)) (one_key keys_total keys_exact q key e) ∙ none))
    go false e = refl

-- it goes
module _ (e : DeviceSeen) (m m' : MachineSet) (region : ℕ) where
  pub same_end : (e' : DeviceSeen)
      → ◌≡◌ {A = DeviceRest} (record { table = e'.table; view = e'.view })
      (record { table = e.table; view = e.view })
      → state_with m' e'.pages ≡ step (state_with m e.pages) (Do (DefineGmr2 region 0)) → e' ≡ e
  same_end e' rest ok = λ i. record {
    table = ap (λ (r : DeviceRest). r.table) rest i;
    view = ap (λ (r : DeviceRest). r.view) rest i;
    pages = ap (λ (s : State). s.memory) ok i;
  }

  pub region_removed : (left : Memory) → IsAnswering e m → region ≡ e.view.wanted.id
      → e.view.wanted.descriptor ≡ 0 → IsDevicePossible e.view
      → state_with m' left ≡ step (state_with m e.pages) (Do (DefineGmr2 region 0))
      → IsChainRun e.view.kept e.pages e.view.wanted m'.kept
  region_removed left a is none p ok =
      let r = e.view.wanted in
      let here : State = record { kept = e.view.kept; memory = e.pages } in
      let touched : (key : PageKey) → Touches here (chain_of r) key → HasPage e.pages key =
      λ key on. absurd (none_touched here r.id r.descriptor key none on) in
      record {
        there = touched;
        admissible = no_fault e.view p a.waits e.pages a.holding.noted_is touched;
        stepped = ap (λ (s : State). s.kept) ok
            ∙ (λ i. (step (record { kept = sym a.kept i; memory = e.pages }) (Chain (is i) 0)).kept)
            ∙ (λ i. (step here (Chain r.id (sym none i))).kept);
      }
