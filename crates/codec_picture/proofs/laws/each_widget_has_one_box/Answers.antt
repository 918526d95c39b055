use Rattle.codec_picture.proofs.BoxLemmas.{widgets_boxed}
use Rattle.codec_picture.proofs.laws.each_widget_has_one_box.Goals as goal

pub returns : goal.returns
returns c = widgets_boxed
