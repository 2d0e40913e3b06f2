use Rattle.std.proofs.Common.{ap, refl, sym, subst, ◌∙◌, ◌≡◌, false}
use Rattle.std.specs.FinMap as map
use Rattle.svga_cmd.specs.Pages.{key_cmp}
use Rattle.svga_cmd.specs.Spelling.{Spells}
use Rattle.svga_ring.proofs.Pages.Noted.{held_unnoted}
use Rattle.svga_ring.specs.Noting.{NotedPages, holds, known_state}
use Rattle.bench_ring.proofs.receiving.take.Goals as goal

pub store_stop-requires : goal.store_stop-requires
store_stop-requires g c =
    let plain = c.requires.plain in
    let e = c.finds.new.device.view in (
      plain.0,
      record {
        read_whole = subst (Spells plain.0) (sym (c.if-not-finds.ensures.read refl)) plain.1.spelled;
        none_held = λ key. subst (λ (n : NotedPages). holds n key ≡ false) (sym c.finds.ensures.noted) (c.requires.waiting.none_held key);
        given = λ key touched. absurd (plain.1.touches_none (known_state e) key touched);
        all_given = λ key touched. absurd (plain.1.touches_none (known_state e) key touched);
        fence = λ value is. absurd (plain.1.no_fence value is);
      },
    )

pub returns : goal.returns
returns g c = λ found.
    let plain = c.requires.plain in
    let left = c.store_stop.ensures plain.0 (subst (Spells plain.0) (sym (c.if-not-finds.ensures.read refl)) plain.1.spelled) in record {
      none_read = ap (λ d. d.view.read) left;
      none_held = λ key. ap (λ d. holds d.view.noted key) left ∙ held_unnoted map.empty key (map.get-empty key_cmp key);
    }
