-- A window that shows rows and stays what it is.
use Rattle.std.proofs.Common.{◌∙◌, refl}
use Rattle.cycle_window.specs.declared.window.Window.{Window}
use Rattle.cycle_window.specs.Shown.{IsSameWindow}

pub same-self : (w : Window) → IsSameWindow w w
same-self w = record {
  columns = refl;
  size = refl;
  first = refl;
  end = refl;
  over = λ c over. over;
  of = λ d k same. same;
}

pub same-after : (u v w : Window) → IsSameWindow u v → IsSameWindow v w → IsSameWindow u w
same-after u v w one other = record {
  columns = other.columns ∙ one.columns;
  size = other.size ∙ one.size;
  first = other.first ∙ one.first;
  end = other.end ∙ one.end;
  over = λ c over. other.over c (one.over c over);
  of = λ d k same. other.of d k (one.of d k same);
}
