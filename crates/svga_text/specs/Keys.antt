-- The names of pages.
use Rattle.std.specs.Prelude.{ℕ, List, ◌++◌, codes}
use Rattle.std.specs.Fmt.{decimal}
use Rattle.svga_cmd.specs.declared.page.PageKey.{PageKey}
use Rattle.svga_cmd.specs.declared.page.PageKey.TheVariants.{Guest, Frame}

-- a page's name: `p` and the number of a page of guest memory, `f` and that of one of the framebuffer
abbrev pub key_text : PageKey → List ℕ
key_text (Guest number) = codes "p" ++ decimal number
key_text (Frame number) = codes "f" ++ decimal number
