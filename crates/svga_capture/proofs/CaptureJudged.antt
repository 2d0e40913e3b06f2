-- The first flaw of all fields, group by group.
use Rattle.std.proofs.Common.{◌≡◌, ℕ, ◌∙◌, sym, ap, List, ◌++◌, ◌==◌, ◌≤◌, nat_lt, if◌then◌else◌, length, Option, Some, None, arith}
use Rattle.std.proofs.lemmas.Bool.Decides.{nat_tests}
use Rattle.std.specs.Option.{option_or}
use Rattle.svga_capture.proofs.FieldLaws.{first_told, flaw_append, or_assoc, second_told}
use Rattle.svga_cmd.specs.declared.capture_cause.CaptureCause.{CaptureCause}
use Rattle.svga_cmd.specs.declared.capture_cause.CaptureCause.TheVariants.{Long}
use Rattle.svga_model.specs.CaptureFields.{Field, capture_end, fifo_fields, first_flaw, header_fields, page_fields, region_fields, region_records}
use Rattle.svga_model.specs.Captures.{flaw_in}

-- the flaw of bytes that go on behind this one
abbrev pub long_at : ℕ → ℕ × CaptureCause
long_at end = (end, Long)

-- what follows the last field
abbrev pub excess : List ℕ → Option (ℕ × CaptureCause)
excess bytes = if nat_lt (capture_end bytes) (length bytes) then Some (long_at (capture_end bytes)) else None

-- two groups, and what follows them
two : (bytes : List ℕ) (xs ys : List Field) (e : Option (ℕ × CaptureCause))
    → option_or (first_flaw bytes (xs ++ ys)) e ≡ option_or (first_flaw bytes xs) (option_or (first_flaw bytes ys) e)
two bytes xs ys e =
    ap (λ (o : Option (ℕ × CaptureCause)). option_or o e) (flaw_append bytes xs ys)
    ∙ or_assoc (first_flaw bytes xs) (first_flaw bytes ys) e

module _ (bytes : List ℕ) where
  abbrev regions_of : List Field
  regions_of = region_fields bytes 0 None (region_records bytes)

  abbrev header : Option (ℕ × CaptureCause)
  header = first_flaw bytes (header_fields bytes)

  abbrev fifo : Option (ℕ × CaptureCause)
  fifo = first_flaw bytes (fifo_fields bytes)

  abbrev regions : Option (ℕ × CaptureCause)
  regions = first_flaw bytes regions_of

  abbrev pages : Option (ℕ × CaptureCause)
  pages = first_flaw bytes (page_fields bytes)

  by_groups : flaw_in bytes ≡ option_or header (option_or fifo (option_or regions (option_or pages (excess bytes))))
  by_groups =
      two bytes (header_fields bytes ++ fifo_fields bytes ++ regions_of) (page_fields bytes) (excess bytes)
      ∙ two bytes (header_fields bytes ++ fifo_fields bytes) regions_of (option_or pages (excess bytes))
      ∙ two bytes (header_fields bytes) (fifo_fields bytes) (option_or regions (option_or pages (excess bytes)))

  pub header_wrong : (w : ℕ × CaptureCause) → Some w ≡ header → Some w ≡ flaw_in bytes
  header_wrong w e =
      first_told w header (option_or fifo (option_or regions (option_or pages (excess bytes)))) e ∙ sym by_groups

  -- where the header is good
  module _ (h : None ≡ header) where
    behind_header : flaw_in bytes ≡ option_or fifo (option_or regions (option_or pages (excess bytes)))
    behind_header = by_groups ∙ second_told header (option_or fifo (option_or regions (option_or pages (excess bytes)))) h

    pub fifo_wrong : (w : ℕ × CaptureCause) → Some w ≡ fifo → Some w ≡ flaw_in bytes
    fifo_wrong w e = first_told w fifo (option_or regions (option_or pages (excess bytes))) e ∙ sym behind_header

    -- where the FIFO's memory is good too
    module _ (f : None ≡ fifo) where
      behind_fifo : flaw_in bytes ≡ option_or regions (option_or pages (excess bytes))
      behind_fifo = behind_header ∙ second_told fifo (option_or regions (option_or pages (excess bytes))) f

      pub regions_wrong : (w : ℕ × CaptureCause) → Some w ≡ regions → Some w ≡ flaw_in bytes
      regions_wrong w e = first_told w regions (option_or pages (excess bytes)) e ∙ sym behind_fifo

      -- and the regions
      module _ (r : None ≡ regions) where
        behind_regions : flaw_in bytes ≡ option_or pages (excess bytes)
        behind_regions = behind_fifo ∙ second_told regions (option_or pages (excess bytes)) r

        pub pages_wrong : (w : ℕ × CaptureCause) → Some w ≡ pages → Some w ≡ flaw_in bytes
        pages_wrong w e = first_told w pages (excess bytes) e ∙ sym behind_regions

        -- and the pages
        pub excess_wrong : None ≡ pages → flaw_in bytes ≡ excess bytes
        excess_wrong p = behind_regions ∙ second_told pages (excess bytes) p

-- what follows the last field, by the test whether its end is the bytes' end
ends : (end len : ℕ) (flaw : ℕ × CaptureCause) → end ≤ len
    → (if end == len then None else Some flaw) ≡ (if nat_lt end len then Some flaw else None)
ends end len flaw within = grind (arith, nat_tests)

pub ends_at : (bytes : List ℕ) (end : ℕ) → end ≡ capture_end bytes → end ≤ length bytes
    → (if end == length bytes then None else Some (long_at end)) ≡ excess bytes
ends_at bytes end is within =
    ends end (length bytes) (long_at end) within
    ∙ ap (λ n. if nat_lt n (length bytes) then Some (long_at n) else None) is
