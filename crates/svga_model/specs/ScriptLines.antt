-- The lines of a script: of which words each consists, and what it asks for.
use Rattle.std.specs.Prelude.{ℕ, suc, ◌+◌, List, [], ◌∷◌, length, drop, map as map_list, slice_index_or, codes, Bool, true, false, nat_le, ◌==◌, ◌&&◌, if◌then◌else◌, is_some, Option, Some, None, option_map, unwrap_or}
use Rattle.std.specs.Option.{option_or}
use Rattle.svga_cmd.specs.declared.blit.Blit.{Blit}
use Rattle.svga_cmd.specs.declared.constants.TheConstants.{MAX_FENCE, MAX_FRAME_HEIGHT, MAX_FRAME_WIDTH, MAX_GUEST_PAGES, MAX_MAP_PAGES, MAX_PIXEL_BUDGET, MAX_REMAP_PAGES, MAX_RING_END, MIN_FIRST_FENCE, MIN_RING_END, SVGA_GMR_FRAMEBUFFER, SVGA_ID_INVALID}
use Rattle.svga_cmd.specs.declared.format.Format.TheVariants.{Bgrx32}
use Rattle.svga_cmd.specs.declared.gmrfb.Gmrfb.{Gmrfb}
use Rattle.svga_cmd.specs.declared.limits.Limits.{Limits}
use Rattle.svga_cmd.specs.declared.script_cause.ScriptCause.{ScriptCause}
use Rattle.svga_cmd.specs.declared.script_cause.ScriptCause.TheVariants.{Character, Extra, Limit, Missing, Number, Session, Space, Word as OtherWord}
use Rattle.svga_cmd.specs.declared.session.Way.{Way}
use Rattle.svga_cmd.specs.declared.session.Way.TheVariants.{Reserve}
use Rattle.svga_cmd.specs.Pages.{number_in_kind}
use Rattle.svga_model.specs.CaptureFields.{is_between, is_whole}
use Rattle.svga_model.specs.ClientActs.{BlitBack, BlitTo, ClientAct, Describe, Destroy, Fill, Lend, Map, NextFence, Region, Same, Screen, SetGmrfb, Show, Take, Update, Write}
use Rattle.svga_model.specs.ScriptWords.{Word, are_keys, before_plus, count_in, format_of, hex_in, is_hex, is_hex_byte, is_key_word, is_number, is_number_or, is_run_word, is_signed, is_word, key_in, number_in, number_or, run_in, signed_in, way_of, words_from}

-- what is wrong in a line: the column, counted in bytes from 1, and the cause
pub record LineFlaw : Type 0 where
  pub column : ℕ
  pub cause : ScriptCause

-- what a word has to be: the cause by which others are refused
abbrev pub Rule : Type 0
Rule = List ℕ → Option ScriptCause

abbrev pub unless : Bool → ScriptCause → Option ScriptCause
unless holds cause = if holds then None else Some cause

abbrev pub spelled : (List ℕ → Bool) → ScriptCause → Rule
spelled test cause letters = unless (test letters) cause

-- spelled so, and then within a limit
abbrev pub limited : (List ℕ → Bool) → ScriptCause → (List ℕ → Bool) → Rule
limited test cause within letters = if test letters then unless (within letters) Limit else Some cause

abbrev pub number : Rule
number = spelled is_number Number

abbrev pub signed : Rule
signed = spelled is_signed Number

abbrev pub number_up_to : (ℕ → Bool) → Rule
number_up_to test = limited is_number Number (λ letters. test (number_in letters))

-- the last of so many numbers from one on is a number of 32 bits
abbrev pub ends_within : ℕ → ℕ → Bool
ends_within first count = nat_le (first + count) 4294967296

abbrev pub key : Rule
key = spelled is_key_word OtherWord

abbrev pub keys : Rule
keys =
    limited are_keys OtherWord (λ letters.
    ends_within (number_in_kind (key_in (before_plus letters))) (count_in letters))

-- a RUN of a line whose runs before it have so many pages
abbrev pub run_behind : ℕ → Rule
run_behind pages =
    limited is_run_word OtherWord (λ letters.
    ends_within (run_in letters).first (run_in letters).count
    && nat_le (pages + (run_in letters).count) MAX_MAP_PAGES)

abbrev pub more_runs : ℕ → List (List ℕ) → List Rule
more_runs pages [] = []
more_runs pages (letters ∷ words) = run_behind pages ∷ more_runs (pages + count_in letters) words

-- one RUN or more
abbrev pub runs : List (List ℕ) → List Rule
runs [] = run_behind 0 ∷ []
runs (letters ∷ words) = more_runs 0 (letters ∷ words)

abbrev pub region : Rule
region = spelled (is_number_or (codes "frame")) Number

abbrev pub screen : Rule
screen = spelled (is_number_or (codes "all")) Number

-- the lines, by their first words
pub data LineKind : Type 0 where
  ScreenLine : LineKind
  DropLine : LineKind
  RegionLine : LineKind
  MapLine : LineKind
  SameLine : LineKind
  GmrfbLine : LineKind
  BlitLine : LineKind
  BackLine : LineKind
  UpdateLine : LineKind
  FenceLine : LineKind
  WriteLine : LineKind
  FillLine : LineKind
  LendLine : LineKind
  TakeLine : LineKind
  ShowLine : LineKind
  DescribeLine : LineKind

abbrev pub kind_of : List ℕ → Option LineKind
kind_of letters =
    if is_word (codes "screen") letters then Some ScreenLine else
    if is_word (codes "drop") letters then Some DropLine else
    if is_word (codes "region") letters then Some RegionLine else
    if is_word (codes "map") letters then Some MapLine else
    if is_word (codes "same") letters then Some SameLine else
    if is_word (codes "gmrfb") letters then Some GmrfbLine else
    if is_word (codes "blit") letters then Some BlitLine else
    if is_word (codes "back") letters then Some BackLine else
    if is_word (codes "update") letters then Some UpdateLine else
    if is_word (codes "fence") letters then Some FenceLine else
    if is_word (codes "write") letters then Some WriteLine else
    if is_word (codes "fill") letters then Some FillLine else
    if is_word (codes "lend") letters then Some LendLine else
    if is_word (codes "take") letters then Some TakeLine else
    if is_word (codes "show") letters then Some ShowLine else
    if is_word (codes "describe") letters then Some DescribeLine else None

-- the words behind the first, where a line has these behind it
abbrev pub rules_of : LineKind → List (List ℕ) → List Rule
rules_of ScreenLine ws = number ∷ number ∷ number ∷ signed ∷ signed ∷ []
rules_of DropLine ws = number ∷ []
rules_of RegionLine ws = number ∷ number ∷ []
rules_of MapLine ws = number ∷ number ∷ runs (drop 2 ws)
rules_of SameLine ws = number ∷ number ∷ number_up_to (λ n. nat_le n MAX_REMAP_PAGES) ∷ number ∷ []
rules_of GmrfbLine ws =
    region ∷ number ∷ number ∷ spelled (λ letters. is_some (format_of letters)) OtherWord ∷ []
rules_of BlitLine ws = signed ∷ signed ∷ signed ∷ signed ∷ signed ∷ signed ∷ screen ∷ []
rules_of BackLine ws = signed ∷ signed ∷ signed ∷ signed ∷ signed ∷ signed ∷ screen ∷ []
rules_of UpdateLine ws = number ∷ number ∷ number ∷ number ∷ []
rules_of FenceLine ws = []
rules_of WriteLine ws = key ∷ number ∷ spelled is_hex Number ∷ []
rules_of FillLine ws = key ∷ spelled is_hex_byte Number ∷ []
rules_of LendLine ws = keys ∷ []
rules_of TakeLine ws = keys ∷ []
rules_of ShowLine ws = key ∷ []
rules_of DescribeLine ws = number ∷ number ∷ []

-- word k behind the first
abbrev pub at : List (List ℕ) → ℕ → List ℕ
at ws k = slice_index_or ws k []

abbrev pub number_at : List (List ℕ) → ℕ → ℕ
number_at ws k = number_in (at ws k)

abbrev pub blit_in : List (List ℕ) → Blit
blit_in ws = record {
  point = record { x = signed_in (at ws 0); y = signed_in (at ws 1) };
  rect = record {
    left = signed_in (at ws 2);
    top = signed_in (at ws 3);
    right = signed_in (at ws 4);
    bottom = signed_in (at ws 5);
  };
  screen = number_or (codes "all") SVGA_ID_INVALID (at ws 6);
}

abbrev pub gmrfb_in : List (List ℕ) → Gmrfb
gmrfb_in ws = record {
  region = number_or (codes "frame") SVGA_GMR_FRAMEBUFFER (at ws 0);
  offset = number_at ws 1;
  pitch = number_at ws 2;
  format = unwrap_or (format_of (at ws 3)) Bgrx32;
}

-- what a line with these words behind its first asks for
abbrev pub act_by : LineKind → List (List ℕ) → ClientAct
act_by ScreenLine ws =
    Screen (number_at ws 0) (number_at ws 1) (number_at ws 2) (signed_in (at ws 3)) (signed_in (at ws 4))
act_by DropLine ws = Destroy (number_at ws 0)
act_by RegionLine ws = Region (number_at ws 0) (number_at ws 1)
act_by MapLine ws = Map (number_at ws 0) (number_at ws 1) (map_list run_in (drop 2 ws))
act_by SameLine ws = Same (number_at ws 0) (number_at ws 1) (number_at ws 2) (number_at ws 3)
act_by GmrfbLine ws = SetGmrfb (gmrfb_in ws)
act_by BlitLine ws = BlitTo (blit_in ws)
act_by BackLine ws = BlitBack (blit_in ws)
act_by UpdateLine ws = Update (number_at ws 0) (number_at ws 1) (number_at ws 2) (number_at ws 3)
act_by FenceLine ws = NextFence
act_by WriteLine ws = Write (key_in (at ws 0)) (number_at ws 1) (hex_in (at ws 2))
act_by FillLine ws = Fill (key_in (at ws 0)) (slice_index_or (hex_in (at ws 1)) 0 0)
act_by LendLine ws = Lend (key_in (before_plus (at ws 0))) (count_in (at ws 0))
act_by TakeLine ws = Take (key_in (before_plus (at ws 0))) (count_in (at ws 0))
act_by ShowLine ws = Show (key_in (at ws 0))
act_by DescribeLine ws = Describe (number_at ws 0) (number_at ws 1)

-- the numbers of a session
pub record SessionNumbers : Type 0 where
  pub ring : ℕ
  pub limits : Limits
  pub first : ℕ
  pub way : Way

abbrev pub session_rules : List Rule
session_rules =
    number_up_to (λ n. is_between MIN_RING_END MAX_RING_END n && is_whole n)
    ∷ number_up_to (is_between 1 MAX_GUEST_PAGES)
    ∷ number_up_to (is_between 1 MAX_FRAME_WIDTH)
    ∷ number_up_to (is_between 1 MAX_FRAME_HEIGHT)
    ∷ number_up_to (is_between 1 MAX_PIXEL_BUDGET)
    ∷ number_up_to (is_between MIN_FIRST_FENCE MAX_FENCE)
    ∷ spelled (λ letters. is_some (way_of letters)) OtherWord ∷ []

abbrev pub session_in : List (List ℕ) → SessionNumbers
session_in ws = record {
  ring = number_at ws 0;
  limits = record {
    pages = number_at ws 1;
    gfb_width = number_at ws 2;
    gfb_height = number_at ws 3;
    budget = number_at ws 4;
  };
  first = number_at ws 5;
  way = unwrap_or (way_of (at ws 6)) Reserve;
}

abbrev pub flaw_at : ℕ → ScriptCause → LineFlaw
flaw_at column cause = record { column = column; cause = cause }

-- what is wrong with the first of the words, by its rule: there is none, or it breaks the rule
abbrev pub front_flaw : ℕ → Rule → List Word → Option LineFlaw
front_flaw behind rule [] = Some (flaw_at behind Missing)
front_flaw behind rule (w ∷ words) = option_map (flaw_at w.column) (rule w.letters)

-- The first of the words that breaks its rule; else the column behind the line where words
-- are missing, or the first word too many.
abbrev pub first_broken : ℕ → List Rule → List Word → Option LineFlaw
first_broken behind [] [] = None
first_broken behind [] (w ∷ words) = Some (flaw_at w.column Extra)
first_broken behind (rule ∷ rules) words =
    option_or (front_flaw behind rule words) (first_broken behind rules (drop 1 words))

-- the first byte that is no character from a space to `~`, of what stands from a column on
abbrev pub is_character : ℕ → Bool
is_character byte = nat_le 32 byte && nat_le byte 126

abbrev pub first_strange : ℕ → List ℕ → Option LineFlaw
first_strange column [] = None
first_strange column (byte ∷ bytes) =
    if is_character byte then first_strange (suc column) bytes else Some (flaw_at column Character)

-- the first word that is empty
abbrev pub first_empty : List Word → Option LineFlaw
first_empty [] = None
first_empty (w ∷ words) = if length w.letters == 0 then Some (flaw_at w.column Space) else first_empty words

abbrev pub letters_of : List Word → List (List ℕ)
letters_of words = map_list (λ (w : Word). w.letters) words

-- the first word, by what is known of it
abbrev pub kind_flaw : ℕ → Option LineKind → List Word → Option LineFlaw
kind_flaw behind None words = Some (flaw_at 1 OtherWord)
kind_flaw behind (Some kind) words = first_broken behind (rules_of kind (letters_of words)) words

-- The words of a line, the first apart: of the session's line, or of one behind it. Words are at least one,
-- so that the case of none decides nothing.
abbrev pub words_flaw : Bool → ℕ → List Word → Option LineFlaw
words_flaw has_session behind [] = None
words_flaw false behind (w ∷ words) =
    if is_word (codes "session") w.letters then first_broken behind session_rules words else
    Some (flaw_at 1 Session)
words_flaw true behind (w ∷ words) =
    if is_word (codes "session") w.letters then Some (flaw_at 1 Session) else
    kind_flaw behind (kind_of w.letters) words

abbrev pub words_of : List ℕ → List Word
words_of line = words_from 1 line

-- what is wrong in a line that isn't skipped: its characters, its spaces, and then its words
abbrev pub line_flaw : Bool → List ℕ → Option LineFlaw
line_flaw has_session line =
    option_or (first_strange 1 line)
    (option_or (first_empty (words_of line)) (words_flaw has_session (suc (length line)) (words_of line)))

-- the words behind the first of a line, and what they ask for
abbrev pub words_behind : List ℕ → List (List ℕ)
words_behind line = drop 1 (letters_of (words_of line))

abbrev pub act_of_line : List ℕ → ClientAct
act_of_line line =
    act_by (unwrap_or (kind_of (at (letters_of (words_of line)) 0)) FenceLine) (words_behind line)
