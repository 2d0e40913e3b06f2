-- The kinds of lines, as the model has them.
use Rattle.svga_model.specs.ScriptLines as model
use Rattle.svga_script.specs.declared.kind.LineKind.{LineKind}
use Rattle.svga_script.specs.declared.kind.LineKind.TheVariants as kind

abbrev pub kind_in : LineKind → model.LineKind
kind_in kind.Screen = model.ScreenLine
kind_in kind.Drop = model.DropLine
kind_in kind.Region = model.RegionLine
kind_in kind.Map = model.MapLine
kind_in kind.Same = model.SameLine
kind_in kind.Gmrfb = model.GmrfbLine
kind_in kind.Blit = model.BlitLine
kind_in kind.Back = model.BackLine
kind_in kind.Update = model.UpdateLine
kind_in kind.Fence = model.FenceLine
kind_in kind.Write = model.WriteLine
kind_in kind.Fill = model.FillLine
kind_in kind.Lend = model.LendLine
kind_in kind.Take = model.TakeLine
kind_in kind.Show = model.ShowLine
kind_in kind.Describe = model.DescribeLine
