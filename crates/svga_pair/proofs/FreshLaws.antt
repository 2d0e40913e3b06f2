-- A driver that has done nothing yet, and what it has sent in the end.
use Rattle.std.proofs.Common.{◌≡◌, ℕ, ◌+◌, ◌<◌, ◌^◌, List, [], ◌∷◌, ◌++◌, length, length-append, refl, sym, ap, subst, ◌∙◌, Option, map as map_list, replicate, IfSome, arith}
use Rattle.std.specs.FinMap as map
use Rattle.std.specs.FinMap.{get-empty}
use Rattle.svga_client.proofs.ClientOfLaws.{client_is}
use Rattle.svga_client.proofs.OpeningLaws.{follows_opening}
use Rattle.svga_cmd.proofs.KeyLaws.{keys_exact, keys_total}
use Rattle.svga_cmd.proofs.Maps.{by_key, get_other, get_same}
use Rattle.svga_cmd.proofs.MemoryLaws.{one_zero_memory}
use Rattle.svga_cmd.specs.Pages.{IsZeroMemoryOf, Memory, key_cmp, page_at}
use Rattle.svga_cmd.specs.declared.constants.TheConstants.{PAGE_SIZE}
use Rattle.svga_cmd.specs.declared.limits.Limits.{Limits}
use Rattle.svga_cmd.specs.declared.page.PageKey.{PageKey}
use Rattle.svga_cmd.specs.declared.session.Session.{Session}
use Rattle.svga_driver.specs.Driving.{DriverHas, IsShort, client_by, client_in}
use Rattle.svga_model.proofs.ValidMemory.{opening_has, opening_pages}
use Rattle.svga_model.specs.Clients.{Client, opening_client}
use Rattle.svga_model.specs.Closings.{stores_of}
use Rattle.svga_model.specs.Meanings.{line_calls, meaning_from}
use Rattle.svga_model.specs.ScriptLines.{SessionNumbers}
use Rattle.svga_model.specs.Scripts.{Script, meaning_of}
use Rattle.svga_model.specs.Sentences.{spelling_all}
use Rattle.svga_model.specs.States.{all_keys, opening_memory}
use Rattle.svga_pair.specs.Going.{GoesOn, IsFresh}
use Rattle.svga_ring.specs.Committed.{commands}
use Rattle.svga_ring.specs.Views.{DriverView, opening_driver}
use Rattle.svga_script.specs.Asked.{numbers_of}

-- pages that all have the same bytes
all_same : (zeros : List ℕ) (keys : List PageKey) (q : PageKey)
    → IfSome (page_at (map.from_entries (map_list (λ key. (key, zeros)) keys)) q) (λ bytes. bytes ≡ zeros)
all_same zeros [] q = subst (λ o. IfSome o (λ bytes. bytes ≡ zeros)) (sym (get-empty key_cmp q)) tt
all_same zeros (key ∷ keys) q =
    let rest : Memory = map.from_entries (map_list (λ key. (key, zeros)) keys) in
    let P : Option (List ℕ) → Type 0 = λ o. IfSome o (λ bytes. bytes ≡ zeros) in
    by_key keys_total keys_exact q key (P (page_at (map.insert rest key zeros) q))
    (λ is. subst P (sym (ap (page_at (map.insert rest key zeros)) is
    ∙ get_same keys_total keys_exact rest key zeros)) refl)
    (λ ne. subst P (sym (get_other keys_total keys_exact rest key q zeros ne)) (all_same zeros keys q))

opening_zero : (l : Limits) → IsZeroMemoryOf l (opening_memory l)
unfolding opening_memory
opening_zero l = record {
  keys = λ key. ((opening_pages l).keys key, opening_has l key);
  zeros = λ key. all_same (replicate PAGE_SIZE 0) (all_keys l) key;
}

-- what a new driver is
pub fresh_so : (s : SessionNumbers) (session : Session) (d : DriverHas) → numbers_of session ≡ s
    → d.view ≡ opening_driver session → IsZeroMemoryOf session.limits d.own → d.touched ≡ map.empty
    → IsFresh s d
fresh_so s session d opened view pages touched =
    record { session = session; opened = opened; view_is = view; pages = pages; touched = touched }

-- It stands for the opening client of its session.
pub fresh_client : (s : SessionNumbers) (d : DriverHas) → IsFresh s d
    → client_in d ≡ opening_client s.limits s.first
fresh_client s d o =
    let session = o.session in
    let pages = one_zero_memory session.limits d.own (opening_memory session.limits) o.pages
    (opening_zero session.limits) in
    ap (λ v. client_by v d.own d.touched) o.view_is
    ∙ ap (λ own. client_by (opening_driver session) own d.touched) pages
    ∙ ap (client_by (opening_driver session) (opening_memory session.limits)) o.touched
    ∙ sym (client_is (follows_opening session.limits session.first))
    ∙ ap (λ (n : SessionNumbers). opening_client n.limits n.first) o.opened

pub fresh_meaning : (s : Script) (d : DriverHas) → IsFresh s.session d
    → meaning_from (client_in d) (line_calls s.acts) ≡ meaning_of s
unfolding meaning_of
fresh_meaning s d o = ap (λ c. meaning_from c (line_calls s.acts)) (fresh_client s.session d o)

-- There is room in the counts for a script's acts.
pub still_room : (s : SessionNumbers) (d left : DriverHas) (n : ℕ) → IsFresh s d → GoesOn d n left
    → n < 2 ^ 20 → IsShort left.view
still_room s d left n o goes few =
    omega (
      arith,
      goes.few,
      ap length goes.has_sent.sent_are,
      length-append d.view.sent (spelling_all goes.more),
      ap (λ (v : DriverView). length v.sent) o.view_is,
    )

more_are : (s : SessionNumbers) (d left : DriverHas) (n : ℕ) → IsFresh s d → (goes : GoesOn d n left)
    → commands left.view.acts ≡ goes.more
more_are s d left n o goes = goes.has_sent.commands_are
    ∙ ap (λ l. l ++ goes.more) (ap (λ (v : DriverView). commands v.acts) o.view_is)

-- All words of its client's commands are sent.
pub all_sent : (s : SessionNumbers) (d left : DriverHas) (n : ℕ) (c : Client) → IsFresh s d → GoesOn d n left
    → client_in left ≡ c → left.view.sent ≡ spelling_all c.commands
all_sent s d left n c o goes is =
    let h = goes.has_sent in
    h.sent_are ∙ ap (λ l. l ++ spelling_all goes.more) (ap (λ (v : DriverView). v.sent) o.view_is)
    ∙ ap spelling_all (sym (more_are s d left n o goes)) ∙ ap (λ (c : Client). spelling_all c.commands) is

pub all_stored : (s : SessionNumbers) (d left : DriverHas) (n : ℕ) (c : Client) → IsFresh s d
    → GoesOn d n left
    → client_in left ≡ c → left.view.next_stores ≡ stores_of s.way c.commands
all_stored s d left n c o goes is =
    let way = o.session.way in
    let counted : left.view.next_stores ≡ 0 + stores_of way goes.more = goes.has_sent.stores_are
    ∙ ap (λ (v : DriverView). v.next_stores + stores_of v.terms.way goes.more) o.view_is in
    let same : stores_of way goes.more ≡ stores_of s.way c.commands =
    ap (λ (n : SessionNumbers). stores_of n.way goes.more) o.opened
    ∙ ap (stores_of s.way) (sym (more_are s d left n o goes) ∙ ap (λ (c : Client). c.commands) is) in
    omega (arith, counted, same)
