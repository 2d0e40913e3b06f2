-- A session opens as a sound one.
use Rattle.std.proofs.Common.{◌≡◌, ◌≢◌, ℕ, ◌<◌, inl, inr, [], slice_index, refl, ◌∙◌, arith}
use Rattle.std.proofs.lemmas.Bool.{cases_lt}
use Rattle.std.proofs.lemmas.List.Elements.{All-nil}
use Rattle.svga_cmd.specs.declared.session.Session.{Session}
use Rattle.svga_model.specs.Acts.{IsAct}
use Rattle.svga_ring.proofs.Sessions.TableWords.{opening_is_layout, opening_length, opening_register, opening_zero, registers}
use Rattle.svga_ring.proofs.Words.Turns.{some_dwords}
use Rattle.svga_ring.specs.Core.{opening_core, opening_words}
use Rattle.svga_ring.specs.SoundWords.{IsFixed}
use Rattle.svga_ring.specs.Sound.{IsSoundOfWords}
use Rattle.svga_ring.specs.Views.{opening_layout}

-- a dword that no step stores to is 0 but for MIN and CAPABILITIES
opening_fixed : (k : Session) (i : ℕ) → IsFixed (opening_layout k) i → i ≢ 0 → i ≢ 4
    → slice_index (opening_words k) i ≡ 0
opening_fixed k i is not_min not_capabilities = elim (cases_lt i 7) as
    (λ _. slice_index (opening_words k) i ≡ 0) [
      | inl register ↦ (
          let five : i ≡ 5 =
          flags i register not_min is.not_max is.not_next is.not_stop not_capabilities is.not_fence in
          opening_register k i register ∙ (λ j. slice_index (registers k) (five j))
          )
      | inr behind ↦ opening_zero k i behind is.in_fifo
    ]
  where
    flags : (n : ℕ) → n < 7 → n ≢ 0 → n ≢ 1 → n ≢ 2 → n ≢ 3 → n ≢ 4 → n ≢ 6 → n ≡ 5
    flags n low a b c d e f = grind arith

pub opens : (k : Session) → IsSoundOfWords k (opening_core k)
opens k =
    let lay = opening_is_layout k in
    let some = some_dwords (opening_layout k) lay in
    record {
      session = record {
        of_driver = refl;
        of_device = refl;
        layout = lay;
        one_layout = refl;
        first_layout = refl;
      };
      order = record {
        ahead = [];
        read_follows_sent = refl;
        done_low = omega arith;
        taken_whole = refl;
        read_known = omega arith;
        known_sent = omega arith;
        rest = [];
        acts_spelled = refl;
        rest_is_tail = inl refl;
        rest_by_dword = λ _. refl;
      };
      ring = record {
        next_is = opening_register k 2 (omega arith) ∙ omega (arith, some.0);
        stop_is = opening_register k 3 (omega arith) ∙ omega (arith, some.0);
        max_is = opening_register k 1 (omega arith);
        base_known = omega arith;
        known_stop = omega arith;
        room = omega (arith, some.0);
        cells = λ i low high. absurd (omega arith);
        dwords = λ i less. absurd (omega arith);
        short = omega arith;
      };
      fixed = record {
        length_is = opening_length k;
        min_is = opening_register k 0 (omega arith);
        capabilities_are = opening_register k 4 (omega arith);
        others = opening_fixed k;
      };
      known = record { passed_low = omega arith; stop_is = refl };
      loads = record { stop_is = λ _. omega (arith, some.0); next_is = omega (arith, some.0) };
      fences = record {
        numbered = λ j low. absurd (omega arith);
        window = omega arith;
        register_is = opening_register k 6 (omega arith);
        seen_passed = omega arith;
        in_hand = λ e. absurd cc;
        last_is = refl;
      };
      acts = record { each = All-nil (IsAct k.limits); in_turn = refl };
    }
